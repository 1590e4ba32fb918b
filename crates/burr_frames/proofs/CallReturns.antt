-- What a return comes to, by what was found on the way.
use Rattle.std.proofs.Common.{◌≡◌, ℕ, List, length, Some, sym, subst, inr}
use Rattle.std.specs.Prelude.{reverse, slice_get}
use Rattle.std.proofs.lemmas.List.{reverse-reverse}
use Rattle.burr_code.specs.Stacks.{top_many}
use Rattle.burr_forms.specs.Rules.Forms.{Form}
use Rattle.burr_container.specs.declared.frame_ref.ExitRef.{ExitRef}
use Rattle.burr_container.specs.Rules.Plans.{Plan, PlanProcedure}
use Rattle.burr_container.specs.Views.InPlace.{IsExit}
use Rattle.burr_container.specs.Views.Refs.{parameters_of}
use Rattle.burr_frames.specs.Rules.States.{AbstractState}
use Rattle.burr_frames.specs.Rules.FramedPlans.{FramedExit, FramedProcedure, framed_plan}
use Rattle.burr_frames.proofs.Common.ExitsRead.{exit_there, parameters_there, ranges_there}
use Rattle.burr_frames.proofs.Common.Heres.{procedure_here}
use Rattle.burr_frames.specs.Rules.Verdicts.{Verdict, paying}
use Rattle.burr_frames.specs.Rules.ControlRules.{first_forms, ret_rule}
use Rattle.burr_frames.specs.Views.Exits.{framed_ref, meeting_exit, meeting_exit_with}

-- the results in a definition, with the top first, and in the code, with the top last
back : (s : AbstractState) (exit : FramedExit) (parameters results : List Form) (v : Verdict)
    → meeting_exit_with s exit parameters results v → meeting_exit_with s exit parameters (reverse (reverse results)) v
back s exit parameters results v h =
    subst (λ (fs : List Form). meeting_exit_with s exit parameters fs v) (sym (reverse-reverse results)) h

-- parameters and results are known, and the exit frame is met or not
pub meeting_exit_on : (s : AbstractState) (exit : FramedExit) (count : ℕ) (parameters results below : List Form) (v : Verdict)
    → first_forms count s.slots ≡ Some parameters
    → top_many (length exit.results) s.operands ≡ Some (reverse results, below)
    → meeting_exit_with s exit parameters results v → meeting_exit count s exit v
meeting_exit_on s exit count parameters results below v known enough h =
    inr (parameters, known, inr ((reverse results, below), enough, back s exit parameters results v h))

-- the exit frame that is read in place is that of the procedure in the plan
pub record IsExitRead (here : FramedProcedure) (kept : ExitRef) : Type 0 where
  pub there : here.exit ≡ Some (framed_ref kept)
  pub parameters : parameters_of kept ≡ here.parameters
  pub results : length (framed_ref kept).results ≡ here.results

pub exit_read : (p : Plan) (n : ℕ) (here : FramedProcedure) (kept : ExitRef) → slice_get (framed_plan p).procedures n ≡ Some here
    → ((q : PlanProcedure) → slice_get p.procedures n ≡ Some q → IsExit p.pieces q.parameters q.results (Some kept) q.exit)
    → IsExitRead here kept
exit_read p n here kept at reads =
    let found = procedure_here p n here at in
    let q = found.0 in
    let read = reads q found.1 in
    subst (λ (h : FramedProcedure). IsExitRead h kept) (sym found.2)
    (record {
      there = exit_there p.pieces q.parameters q.results kept q.exit read;
      parameters = parameters_there p.pieces q.parameters q.results kept q.exit read;
      results = ranges_there p.pieces q.parameters q.results kept q.exit read;
    })

-- all are there, and what follows where a step is paid for
pub ret_on : (here : FramedProcedure) (s : AbstractState) (exit : FramedExit) (parameters results below : List Form) (v : Verdict)
    → here.exit ≡ Some exit → first_forms here.parameters s.slots ≡ Some parameters
    → top_many here.results s.operands ≡ Some (reverse results, below)
    → paying s (λ paid. meeting_exit_with s exit parameters results) v → ret_rule here s v
ret_on here s exit parameters results below v there known enough h =
    inr (
      exit,
      there,
      inr (
        parameters,
        known,
        inr (
          (reverse results, below),
          enough,
          subst (λ (fs : List Form). paying s (λ paid. meeting_exit_with s exit parameters fs) v) (sym (reverse-reverse results)) h,
        ),
      ),
    )
