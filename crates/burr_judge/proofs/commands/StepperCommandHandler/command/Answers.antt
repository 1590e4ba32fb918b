-- Each command's line tells what its call came to.
use Rattle.std.proofs.Common.{subst, ℤ, w32, inl, inr, refl}
use Rattle.std.proofs.lemmas.Int.{to_z-of_z}
use Rattle.burr_text.proofs.Common.Tests.{yes_of, no_of}
use Rattle.burr_state.specs.Views.Benches.{setup_of}
use Rattle.burr_step.specs.Rules.Stepper.{Forward, Over, Until, Answer, Back}
use Rattle.burr_step.specs.Views.Stepping.{CameTo, commanding}
use Rattle.burr_judge.specs.declared.commands.Command.TheVariants as read
use Rattle.burr_judge.proofs.CommandAnswers.{came_tells, none_tells, show_tells, quit_tells}
use Rattle.burr_judge.proofs.CommandLines.{read_is, none_of_run, none_without_label}
use Rattle.burr_judge.proofs.commands.StepperCommandHandler.command.Goals as goal

pub returns-in_default : goal.returns-in_default
returns-in_default g c =
    let s = c.args.self.now in
    let told = none_tells g.W.Sink c.args.sink.now c.put_no_command.new.sink s c.args.line.now c.put_no_command.result
    (none_of_run (setup_of s.bench) c.args.line.now c.labels_are_few.ensures c.in_default.ensures) c.put_no_command.ensures in
    record { ok = told.0; err = told.1; quit = told.2 }

pub returns-then-not-has_label : goal.returns-then-not-has_label
returns-then-not-has_label g c =
    let s = c.args.self.now in
    let procedure = c.in-Until.procedure in
    let label = c.in-Until.label in
    let is = read_is c.args.line.now c.in-Some.command (read.Until procedure label) c.in-Some.ensures c.in-Until.is in
    let told = none_tells g.W.Sink c.args.sink.now c.put_no_command-then-not-has_label.new.sink s c.args.line.now c.put_no_command-then-not-has_label.result
    (none_without_label (setup_of s.bench) c.args.line.now procedure label c.labels_are_few.ensures is.0.0 is.0.1 is.1 (no_of c.if-not-has_label.ensures))
    c.put_no_command-then-not-has_label.ensures in
    record { ok = told.0; err = told.1; quit = told.2 }

pub returns-in-Forward : goal.returns-in-Forward
returns-in-Forward g c =
    let is = read_is c.args.line.now c.in-Some.command read.Forward c.in-Some.ensures c.in-Forward.is in
    let told = came_tells g.W.Sink c.args.sink.now c.put_outcome.new.sink c.args.self.now c.forward.new.self c.args.line.now Forward
    c.forward.result c.put_outcome.result is (inl c.forward.ensures.no_memory) c.forward.ensures.comes
    c.put_outcome.ensures in
    record { ok = told.0; err = told.1; quit = told.2 }

pub returns-in-Over : goal.returns-in-Over
returns-in-Over g c =
    let is = read_is c.args.line.now c.in-Some.command read.Over c.in-Some.ensures c.in-Over.is in
    let told = came_tells g.W.Sink c.args.sink.now c.put_outcome-in-Over.new.sink c.args.self.now c.over.new.self c.args.line.now Over
    c.over.result c.put_outcome-in-Over.result is (inl c.over.ensures.no_memory) c.over.ensures.comes
    c.put_outcome-in-Over.ensures in
    record { ok = told.0; err = told.1; quit = told.2 }

pub returns-else-not-has_label : goal.returns-else-not-has_label
returns-else-not-has_label g c =
    let procedure = c.in-Until.procedure in
    let label = c.in-Until.label in
    let is = read_is c.args.line.now c.in-Some.command (read.Until procedure label) c.in-Some.ensures c.in-Until.is in
    let told = came_tells g.W.Sink c.args.sink.now c.put_outcome-in-Until.new.sink c.args.self.now c.until.new.self c.args.line.now
    (Until procedure label) c.until.result c.put_outcome-in-Until.result (yes_of c.if-not-has_label.ensures, is.1)
    (inl c.until.ensures.no_memory) c.until.ensures.comes c.put_outcome-in-Until.ensures in
    record { ok = told.0; err = told.1; quit = told.2 }

pub returns-in-Answer : goal.returns-in-Answer
returns-in-Answer g c =
    let s = c.args.self.now in
    let answer = c.in-Answer.answer in
    let is = read_is c.args.line.now c.in-Some.command (read.Answer answer) c.in-Some.ensures c.in-Answer.is in
    let came = subst (λ (n : ℤ). CameTo s (commanding s (Answer n)) c.answer.result c.answer.new.self) (to_z-of_z w32 answer is.0) c.answer.ensures in
    let told = came_tells g.W.Sink c.args.sink.now c.put_outcome-in-Answer.new.sink s c.answer.new.self c.args.line.now (Answer answer)
    c.answer.result c.put_outcome-in-Answer.result is (inr (answer, is)) came c.put_outcome-in-Answer.ensures in
    record { ok = told.0; err = told.1; quit = told.2 }

pub returns-in-Back : goal.returns-in-Back
returns-in-Back g c =
    let steps = c.in-Back.steps in
    let is = read_is c.args.line.now c.in-Some.command (read.Back steps) c.in-Some.ensures c.in-Back.is in
    let told = came_tells g.W.Sink c.args.sink.now c.put_outcome-in-Back.new.sink c.args.self.now c.back.new.self c.args.line.now (Back steps)
    c.back.result c.put_outcome-in-Back.result is (inl c.back.ensures.no_memory) c.back.ensures.comes
    c.put_outcome-in-Back.ensures in
    record { ok = told.0; err = told.1; quit = told.2 }

pub returns-in-Show : goal.returns-in-Show
returns-in-Show g c =
    let is = read_is c.args.line.now c.in-Some.command read.Show c.in-Some.ensures c.in-Show.is in
    let told = show_tells g.W.Sink c.args.sink.now c.put_state.new.sink c.args.self.now c.args.line.now c.put_state.result is c.put_state.ensures in
    record { ok = told.0; err = told.1; quit = told.2 }

pub returns-in-Quit : goal.returns-in-Quit
returns-in-Quit g c =
    let is = read_is c.args.line.now c.in-Some.command read.Quit c.in-Some.ensures c.in-Quit.is in
    record { ok = quit_tells g.W.Sink c.args.sink.now c.args.self.now c.args.line.now is; err = tt; quit = λ _. refl }
