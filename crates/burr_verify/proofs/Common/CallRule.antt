-- For crates above too: what the rule of a call gives where none of its checks fails.
use Rattle.std.proofs.Common.{◌≡◌, ℕ, ◌+◌, ◌≤◌, List, length, Some}
use Rattle.std.specs.Prelude.{pos, ◌≤ℤ◌, reverse}
use Rattle.burr_code.specs.Stacks.{top_many}
use Rattle.burr_code.specs.Labels.{callee_of}
use Rattle.burr_forms.specs.Rules.Forms.{Form, value, substituted}
use Rattle.burr_container.specs.Rules.Plans.{Frame}
use Rattle.burr_frames.specs.Rules.FramedPlans.{FramedExit, FramedProcedure, FramedPlan}
use Rattle.burr_frames.specs.Rules.States.{AbstractState, Everywhere}
use Rattle.burr_frames.specs.Rules.Arrival.{Meets}
use Rattle.burr_frames.specs.Rules.Verdicts.{Verdict, FallsThrough}
use Rattle.burr_frames.specs.Rules.ControlRules.{entry_of, called_with, after_call, left_of, call_rule}
use Rattle.burr_frames.proofs.Common.FineVerdicts.{IsFine, held, found, held_everywhere}

pub record CallHolds (plan : FramedPlan) (n q : ℕ) (s : AbstractState) (v : Verdict) : Type 0 where
  pub there : FramedProcedure
  pub there_is : callee_of plan.procedures n q ≡ Some there
  pub exit : FramedExit
  pub exit_is : there.exit ≡ Some exit
  pub entry : Frame
  pub entry_is : entry_of there ≡ Some entry
  -- the last of them first
  pub arguments : List Form
  pub below : List Form
  pub taken : top_many there.parameters s.operands ≡ Some (arguments, below)
  pub room : length below + there.results ≤ 8
  pub meets : Meets (called_with arguments s) entry
  pub enough : Everywhere s
      (λ point. pos 0 ≤ℤ value point (left_of s.cost (substituted meets.forms entry.cost)))
  pub falls_through : v
      ≡ FallsThrough (record (after_call s (reverse arguments) below exit) {
        cost = left_of s.cost (substituted meets.forms entry.cost);
      })

pub call_holds : (plan : FramedPlan) (n q : ℕ) (s : AbstractState) (v : Verdict) → IsFine v
    → call_rule plan n s q v → CallHolds plan n q s v
call_holds plan n q s v fine t =
    let there = found fine t in
    let exit = found fine there.2 in
    let entry = found fine exit.2 in
    let taken = found fine entry.2 in
    let room = held fine taken.2 in
    let forms = found fine room.1 in
    let alike = held fine forms.2 in
    let agrees = held_everywhere (called_with taken.0.0 s) fine alike.1 in
    let symbols = held fine agrees.1 in
    let small = held fine symbols.1 in
    let costs_small = held fine small.1 in
    let cost = held_everywhere s fine costs_small.1 in
    record {
      there = there.0;
      there_is = there.1;
      exit = exit.0;
      exit_is = exit.1;
      entry = entry.0;
      entry_is = entry.1;
      arguments = taken.0.0;
      below = taken.0.1;
      taken = taken.1;
      room = room.0;
      meets = record { forms = forms.0; known = forms.1; alike = alike.0; agrees = agrees.0 };
      enough = cost.0;
      falls_through = cost.1;
    }
