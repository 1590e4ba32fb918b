use Rattle.std.proofs.Common.{◌≡◌, ◌∙◌, Bool, Box, Global, Some, ℕ, ℤ, ap, of_z, subst, sym, to_z, w32}
use Rattle.std.specs.Prelude.{Option}
use Rattle.std.proofs.lemmas.Int.{to_z-of_z}
use Rattle.burr_step.specs.Views.Driving.{Answers, Driving}
use Rattle.burr_step.specs.Views.Stepping.{Stepping}
use Rattle.burr_c.specs.DriveCalls.{AnswerComes, answered, code_of}
use Rattle.burr_c.specs.declared.handle.KeptRun.{KeptRun}
use Rattle.burr_c.specs.declared.handle.KeptRun.TheVariants.{Drive, Stepper}
use Rattle.burr_c.specs.declared.drive.DriveStatus.{DriveStatus}
use Rattle.burr_c.specs.declared.drive.DriveStatus.TheVariants.{Closed}
use Rattle.burr_c.proofs.drive.burr_drive_answer.Goals as goal
use Rattle.burr_c.proofs.drive.burr_drive_answer.Goals.{in-Drive+then-answer, in-Drive+else-answer, in-Stepper}

comes : (question : ℕ) (answer : ℤ) (was new : Option KeptRun) (old now : Driving) (taken : Bool) (came : DriveStatus) (code : ℕ) → was ≡ Some (Drive old)
    → new ≡ Some (Drive now) → Answers question answer old taken now → came ≡ answered taken → code ≡ code_of came → AnswerComes question answer was new code
comes question answer was new old now taken came code opened kept answers said told = rw opened (now, taken, kept, answers, told ∙ ap code_of said)

closed : (question : ℕ) (answer : ℤ) (was new : Option KeptRun) (s : Stepping) (came : DriveStatus) (code : ℕ) → was ≡ Some (Stepper s)
    → new ≡ Some (Stepper s) → came ≡ Closed → code ≡ code_of came → AnswerComes question answer was new code
closed question answer was new s came code opened kept said told = rw opened (kept, told ∙ ap code_of said)

-- the run that was taken out of the handle
was_open : (c : goal.After-code-2) → c.args.run.now.value ≡ Some c.deref_mut.result.now
was_open c = c.in-Some.ensures.taken ∙ ap (λ (k : KeptRun). Some k) (sym c.deref_mut.ensures.value)

-- the answer that is handed on is the one that was given
given : (c : goal.After-code-2) (old now : Driving) (taken : Bool) → Answers c.args.question (to_z w32 (of_z w32 c.args.answer)) old taken now
    → Answers c.args.question c.args.answer old taken now
given c old now taken = subst (λ (n : ℤ). Answers c.args.question n old taken now) (to_z-of_z w32 c.args.answer c.ranges.answer)

pub returns : goal.returns
returns c = elim c.match-deref_mut.branch [
  | in-Drive+then-answer w ↦
      comes c.args.question c.args.answer c.args.run.now.value c.put.new.self.value w.in-Drive.drive w.answer.new.self w.answer.result c.match-deref_mut.came c.code-2.result
      (was_open c ∙ ap (λ (k : KeptRun). Some k) w.in-Drive.is) (c.put.ensures ∙ ap (λ (b : Box KeptRun Global). Some b.value) w.open-is)
      (given c w.in-Drive.drive w.answer.new.self w.answer.result w.answer.ensures) (w.came-is ∙ ap answered (sym w.if-answer.true)) c.code-2.ensures
  | in-Drive+else-answer w ↦
      comes c.args.question c.args.answer c.args.run.now.value c.put.new.self.value w.in-Drive.drive w.answer.new.self w.answer.result c.match-deref_mut.came c.code-2.result
      (was_open c ∙ ap (λ (k : KeptRun). Some k) w.in-Drive.is) (c.put.ensures ∙ ap (λ (b : Box KeptRun Global). Some b.value) w.open-is)
      (given c w.in-Drive.drive w.answer.new.self w.answer.result w.answer.ensures) (w.came-is ∙ ap answered (sym w.if-answer.false)) c.code-2.ensures
  | in-Stepper w ↦
      let opened = was_open c ∙ ap (λ (k : KeptRun). Some k) w.in-Stepper.is in
      closed c.args.question c.args.answer c.args.run.now.value c.put.new.self.value w.in-Stepper.field-0 c.match-deref_mut.came c.code-2.result opened
      (c.put.ensures ∙ ap (λ (b : Box KeptRun Global). Some b.value) w.open-is ∙ ap (λ (k : KeptRun). Some k) w.in-Stepper.is) w.came-is c.code-2.ensures
]
