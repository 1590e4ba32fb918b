-- What a machine keeps: it meets no trap, and stays one.
use Rattle.std.proofs.Common.{◌≡◌, Bool, ℕ, sym, subst, refl, ap, ◌∙◌, inl, inr, length, false, true}
use Rattle.std.specs.Prelude.{Some, None, Ok, Err, OnOk, Option, Result, ℤ}
use Rattle.burr_voxels.specs.declared.direction.Direction.{Direction}
use Rattle.burr_assembly.specs.Rules.Text.{Assembly, IsAssembly}
use Rattle.burr_assembly.specs.Rules.Homes.{homes_of}
use Rattle.burr_code.specs.Instruction.{Step, Aside}
use Rattle.burr_verify.specs.Rules.Accepting.{Judged, IsAccepted}
use Rattle.burr_state.specs.declared.effect.Effect.{Effect}
use Rattle.burr_state.specs.declared.effect.Effect.TheVariants as effects
use Rattle.burr_state.specs.declared.effect.Mode.{Mode}
use Rattle.burr_state.specs.declared.effect.Mode.TheVariants.{Running, Ended}
use Rattle.burr_state.specs.declared.effect.Motion.{Motion}
use Rattle.burr_state.specs.declared.effect.Progress.{Progress}
use Rattle.burr_state.specs.declared.effect.Progress.TheVariants as progress
use Rattle.burr_state.specs.declared.effect.Trap.{Trap}
use Rattle.burr_state.specs.Rules.Bench.{BenchState, Program, running, start}
use Rattle.burr_state.specs.Rules.Next.{Goes, Asks}
use Rattle.burr_state.specs.Rules.Space.{motion_of}
use Rattle.burr_state.specs.Rules.Step.{NextIs, CallIn, Called}
use Rattle.burr_state.specs.Rules.Undo.{Undo, IsRecordOf}
use Rattle.burr_state.specs.Views.Benches.{Benched, benched, setup_of, in_state, IsSameRun, Answered, GoesOn}
use Rattle.burr_state.specs.Views.Effects.{next_of, motion_made, KeepsUnlessGoes, NeverMoves, PiecesStay, StaysPut}
use Rattle.burr_state.specs.Views.Programs.{plan_program}
use Rattle.burr_state.specs.Views.Records.{IsWorkState}
use Rattle.burr_state.specs.Views.StateViews.{at_start, moved_grip, gone_aside}
use Rattle.burr_state.specs.Views.Work.{IsNext, Work, work}
use Rattle.burr_state.proofs.Common.Stepping.Steps.{step_goes, aside_goes}
use Rattle.burr_bench.specs.Soundness.Machine.{IsSafeBench, CallIsSafe, StartIsSafe, StepIsSafe, AsideIsSafe}
use Rattle.burr_bench.specs.Soundness.Records.{EachRecordUndoes}
use Rattle.burr_bench.specs.BenchViews.{CarriesOut}
use Rattle.burr_bench.specs.Recorded.{TakesBack, gone_back}
use Rattle.burr_bench.specs.Safe.{IsSafe}
use Rattle.burr_bench.specs.Sound.{IsSound}
use Rattle.burr_bench.proofs.Stepping.Sound.{goes_on_plain, goes_on_unit, goes_on_aside, is_start, sound_start, sound_staying, sound_unit, sound_aside}

-- the same run, which stands elsewhere, is the bench that stands there
pub same_elsewhere : (old new : Benched) → IsSameRun old new → in_state new.state old ≡ new
same_elsewhere old new same =
    ap (λ (a : Assembly). benched a old.program new.state) (sym same.assembly)
    ∙ ap (λ (p : Program). benched new.assembly p new.state) (sym same.program)

-- a call by the mode in which the bench is
pub called_in : (b : Benched) (mode : Mode) (answer : Option ℤ) (result : Result Progress Trap) (new : BenchState)
    → b.state.mode ≡ mode → CallIn mode (setup_of b) b.state answer result new
    → Called (setup_of b) b.state answer result new
called_in b mode answer result new is call =
    subst (λ (m : Mode). CallIn m (setup_of b) b.state answer result new) (sym is) call

-- what a call without an answer tells of what was carried out
abbrev pub told_of : Effect → Progress
told_of (effects.Goes motion) = progress.Went motion
told_of (effects.Asks low high) = progress.Asks low high

-- what was carried out is a call of a running bench without an answer
pub call_of : (old new : Benched) (effect : Effect)
    → NextIs (setup_of old) old.state (next_of (Ok effect) new.state) → KeepsUnlessGoes (Ok effect) old new
    → CallIn Running (setup_of old) old.state None (Ok (told_of effect)) new.state
call_of old new (effects.Goes motion) next kept = (Goes new.state motion, next, refl, refl)
call_of old new (effects.Asks low high) next kept =
    (Asks low high, next, refl, ap (λ (b : Benched). b.state) kept)

-- after a call the bench runs safely
pub safe_after : CallIsSafe → (old new : Benched) (answer : Option ℤ) (result : Result Progress Trap)
    → IsSafeBench old → IsSameRun old new → Called (setup_of old) old.state answer result new.state
    → IsSafeBench new
safe_after law old new answer result safe same called =
    subst IsSafeBench (same_elsewhere old new same) (law old answer result new.state safe called).1

-- a bench that runs safely and has not ended runs
pub runs_on : (b : Benched) → IsSafeBench b → (¬ (b.state.mode ≡ Ended)) → b.state.mode ≡ Running
runs_on b safe going =
    elim safe.state_is [
      | inl state ↦ state.mode
      | inr ended ↦ absurd (going ended.mode)
    ]

-- an instruction that was carried out leaves a bench that runs safely
pub carried : CallIsSafe → (old new : Benched) (effect : Effect) → IsSafeBench old → old.state.mode ≡ Running
    → CarriesOut old new effect → IsSafeBench new
carried law old new effect safe is out =
    safe_after law old new None (Ok (told_of effect)) safe out.same
    (called_in old Running None (Ok (told_of effect)) new.state is (call_of old new effect out.next out.kept))

-- what is told of an answer that is taken or passed over
abbrev pub told_of_answer : Bool → Progress
told_of_answer true = progress.Went None
told_of_answer false = progress.Again

-- an answer that was given to a running bench is a call
pub answer_call : (b : Benched) (new : BenchState) (answer : ℤ) (taken : Bool) → Answered (setup_of b) b.state answer taken new
    → CallIn Running (setup_of b) b.state (Some answer) (Ok (told_of_answer taken)) new
answer_call b new answer true taken = inl (taken, refl)
answer_call b new answer false unfit = inr (unfit.0, refl, unfit.1)

-- an answer leaves the pieces, the tray and the grip alone
pub sound_put : (old new : Benched) → IsSound old → new.assembly ≡ old.assembly → StaysPut old.state new.state → IsSound new
sound_put old new sound same stays =
    sound_staying old new sound same (record { places = stays.places; here = rw (stays.places, stays.tray, stays.grip) sound.here })

-- where a program at work is kept, the bench is
pub kept_whole : (a : Assembly) (old new : Work) (result : Result Effect Trap) → KeepsUnlessGoes result old new
    → KeepsUnlessGoes result (benched a old.program old.state) (benched a new.program new.state)
kept_whole a old new (Ok (effects.Goes motion)) kept = tt
kept_whole a old new (Ok (effects.Asks low high)) kept = ap (λ (w : Work). benched a w.program w.state) kept
kept_whole a old new (Err trap) kept = ap (λ (w : Work). benched a w.program w.state) kept

-- an instruction that moves no piece, and did not trap
pub execute_carries : (a : Assembly) (old new : Work) (result : Result Effect Trap) (effect : Effect) → result ≡ Ok effect
    → IsSafe (benched a old.program old.state) → NextIs (running (homes_of a) old.program) old.state (next_of result new.state)
    → KeepsUnlessGoes result old new → NeverMoves result → PiecesStay old.state new.state → new.program ≡ old.program
    → CarriesOut (benched a old.program old.state) (benched a new.program new.state) effect
execute_carries a old new result effect is safe next kept still stays same =
    let before = benched a old.program old.state in
    let after = benched a new.program new.state in
    record {
      next = subst (λ (r : Result Effect Trap). NextIs (setup_of before) old.state (next_of r new.state)) is next;
      kept = subst (λ (r : Result Effect Trap). KeepsUnlessGoes r before after) is (kept_whole a old new result kept);
      same = record { assembly = refl; program = same };
      goes_on =
          subst (λ (r : Result Effect Trap). OnOk r (GoesOn before after (motion_made r))) is
          (goes_on_plain before after result safe.sound stays.places still);
    }

-- The start

pub safe_start : StartIsSafe → (j : Judged) (accepted : IsAccepted j) (a : Assembly) (program : Program) (state : BenchState) (count : ℕ)
    → a ≡ j.assembly → program ≡ plan_program accepted.plan → count ≡ length a.pieces → state ≡ at_start count
    → IsSafe (benched a program state)
safe_start law j accepted a program state count a_is program_is count_is state_is =
    let at : state ≡ start (setup_of (benched a program state)) = state_is ∙ is_start a program count count_is in
    let there = subst (λ (x : Assembly). state ≡ start (setup_of (benched x program state))) a_is at in
    record {
      sound =
          subst (λ (s : BenchState). IsSound (benched a program s)) (sym state_is)
          (sound_start a program count (subst IsAssembly (sym a_is) accepted.is_assembly) count_is);
      safe =
          subst (λ (x : Assembly). IsSafeBench (benched x program state)) (sym a_is)
          (subst (λ (p : Program). IsSafeBench (benched j.assembly p state)) (sym program_is) (law j accepted state there));
    }

-- Moves

-- the instruction of a safe bench, one unit along a direction
pub step_carries : StepIsSafe → (old new : Benched) (direction : Direction) (size : ℕ) (motion : Motion)
    → IsSafe old → old.state.mode ≡ Running → IsNext (work old.program old.state) (Step direction) size
    → motion ≡ motion_of old.state.grip old.state.tray direction false → IsSameRun old new → new.state ≡ moved_grip direction size old.state
    → CarriesOut old new (effects.Goes (Some motion)) × IsSound new
step_carries law old new direction size motion safe is next moves same went =
    let here = next.stands.0 in
    let may = law old here direction safe.safe is next.stands.1 in
    let places = ap (λ (s : BenchState). s.places) went in (
      record {
        next = inl (here, Step direction, next.stands.1, step_goes (setup_of old) here old.state new.state direction size motion may.0 may.1 may.2 next.spelled_in moves went);
        kept = tt;
        same = same;
        goes_on = goes_on_unit old new motion direction safe.sound (ap (λ m. m.out) moves) places;
      },
      sound_unit old new direction safe.sound may.2 same.assembly places (ap (λ (s : BenchState). s.tray) went) (ap (λ (s : BenchState). s.grip) went),
    )

-- and its way aside
pub aside_carries : AsideIsSafe → (old new : Benched) (direction : Direction) (tray size : ℕ) (motion : Motion)
    → IsSafe old → old.state.mode ≡ Running → IsNext (work old.program old.state) (Aside direction tray) size
    → motion ≡ motion_of old.state.grip old.state.tray direction true → IsSameRun old new → new.state ≡ gone_aside tray size old.state
    → CarriesOut old new (effects.Goes (Some motion)) × IsSound new
aside_carries law old new direction tray size motion safe is next moves same went =
    let here = next.stands.0 in
    let may = law old here direction tray safe.safe is next.stands.1 in
    let places = ap (λ (s : BenchState). s.places) went in (
      record {
        next = inl (here, Aside direction tray, next.stands.1, aside_goes (setup_of old) here old.state new.state direction tray size motion may.0 may.1 may.2 next.spelled_in moves went);
        kept = tt;
        same = same;
        goes_on = goes_on_aside old new motion tray safe.sound (ap (λ m. m.out) moves) may.0 may.1 places;
      },
      sound_aside old new tray safe.sound may.1 same.assembly places (ap (λ (s : BenchState). s.grip) went),
    )

-- Going back

-- a record of the step that was made takes the machine back to what it was
pub goes_back_by : EachRecordUndoes → (old new : Benched) (answer : Option ℤ) (motion : Option Motion) (u : Undo)
    → IsSafe old → IsSameRun old new → Called (setup_of old) old.state answer (Ok (progress.Went motion)) new.state
    → IsRecordOf (setup_of old) old.state u → IsWorkState old.program.procedures old.state
    → TakesBack new u × (gone_back u new ≡ old)
goes_back_by law old new answer motion u safe same called is works =
    let undoes = law old answer motion new.state u safe.safe called is in
    let elsewhere : in_state new.state old ≡ new = same_elsewhere old new same in
    let back : gone_back u (in_state new.state old) ≡ old = ap (λ (s : BenchState). in_state s old) undoes.1 in
    subst (λ (b : Benched). TakesBack b u × (gone_back u b ≡ old)) elsewhere (
      record {
        sound = subst IsSound (sym back) safe.sound;
        undo = undoes.0;
        state = subst (λ (s : BenchState). IsWorkState old.program.procedures s) (sym undoes.1) works;
      },
      back,
    )
