use Rattle.std.proofs.Common.{◌≡◌, ◌∙◌, Box, Global, List, Some, [], ℕ, ap, inl, inr, subst, sym}
use Rattle.std.specs.Prelude.{Option, Result, Ok, Err, IfOk, IfErr}
use Rattle.burr_step.specs.Views.Driving.{Driving}
use Rattle.burr_step.specs.Views.Stepping.{Stepping}
use Rattle.burr_judge.specs.declared.status.Status.{Status}
use Rattle.burr_judge.specs.declared.status.Status.TheVariants.{Done}
use Rattle.burr_c.specs.declared.handle.KeptRun.{KeptRun}
use Rattle.burr_c.specs.declared.handle.KeptRun.TheVariants.{Drive, Stepper}
use Rattle.burr_c.specs.declared.printed.CallFault.{CallFault}
use Rattle.burr_c.specs.declared.printed.CallFault.TheVariants.{Memory}
use Rattle.burr_c.specs.declared.printed.Printed.{Printed}
use Rattle.burr_c.specs.declared.drive.DriveStatus.TheVariants.{Closed}
use Rattle.burr_c.specs.Calls.{Call, Gives, call}
use Rattle.burr_c.specs.DriveCalls.{code_of}
use Rattle.burr_c.specs.Statuses.{status_of_fault}
use Rattle.burr_c.specs.StepCalls.{AnswersWith, CommandComes, LosesAnswer}
use Rattle.burr_c.proofs.stepper.burr_step_command.Goals as goal
use Rattle.burr_c.proofs.stepper.burr_step_command.Goals.{in-Stepper, in-Drive}

answered : (line : List ℕ) (was new : Option KeptRun) (old now : Stepping) (r : Result Printed CallFault) (c : Call) → was ≡ Some (Stepper old) → new ≡ Some (Stepper now)
    → IfOk r (λ p. AnswersWith old line p.bytes.items now × (p.status ≡ Done)) → IfErr r (λ fault. (fault ≡ Memory) × LosesAnswer old line now)
    → IfOk r (λ p. Gives p.bytes.items p.status c) → IfErr r (λ fault. Gives [] (status_of_fault fault) c) → CommandComes line was new c
answered line was new old now (Ok p) c opened kept ok err gives fails =
    rw opened (now, kept, inl (p.bytes.items, ok.0, subst (λ (s : Status). Gives p.bytes.items s c) ok.1 gives))
answered line was new old now (Err fault) c opened kept ok err gives fails =
    rw opened (now, kept, inr (err.1, subst (λ (f : CallFault). Gives [] (status_of_fault f) c) err.0 fails))

unanswered : (line : List ℕ) (was new : Option KeptRun) (d : Driving) (c : Call) → was ≡ Some (Drive d) → new ≡ Some (Drive d) → c.new ≡ c.old → c.size ≡ 0
    → c.code ≡ code_of Closed → CommandComes line was new c
unanswered line was new d c opened kept buffer size code = rw opened (kept, buffer, size, code)

pub returns : goal.returns
returns c =
    let buffer = c.args.buffer.now in
    let was = c.args.run.now.value in
    let new = c.put.new.self.value in
    let taken = c.in-Some.ensures.taken ∙ ap (λ (k : KeptRun). Some k) (sym c.deref_mut.ensures.value) in
    elim c.match-deref_mut.branch [
      | in-Stepper w ↦
          subst (λ (r : List ℕ). CommandComes c.args.line.now was new (call buffer r c.match-deref_mut.size c.match-deref_mut.code)) (sym w.buffer-is)
          (subst (λ (n : ℕ). CommandComes c.args.line.now was new (call buffer w.give-code.new.buffer n c.match-deref_mut.code)) (sym w.size-is)
          (subst (λ (n : ℕ). CommandComes c.args.line.now was new (call buffer w.give-code.new.buffer w.give-code.new.size n)) (sym w.code-is)
          (answered c.args.line.now was new w.in-Stepper.stepper w.print_answer.new.stepper w.print_answer.result
          (call buffer w.give-code.new.buffer w.give-code.new.size w.give-code.result) (taken ∙ ap (λ (k : KeptRun). Some k) w.in-Stepper.is)
          (c.put.ensures ∙ ap (λ (b : Box KeptRun Global). Some b.value) w.open-is) w.print_answer.ensures.ok w.print_answer.ensures.err w.give-code.ensures.ok
          w.give-code.ensures.err)))
      | in-Drive w ↦
          unanswered c.args.line.now was new w.in-Drive.field-0 (call buffer c.match-deref_mut.buffer c.match-deref_mut.size c.match-deref_mut.code)
          (taken ∙ ap (λ (k : KeptRun). Some k) w.in-Drive.is)
          (c.put.ensures ∙ ap (λ (b : Box KeptRun Global). Some b.value) w.open-is ∙ ap (λ (k : KeptRun). Some k) w.in-Drive.is) w.buffer-is w.size-is
          (w.code-is ∙ w.code-code.ensures)
    ]
