-- Each command's line tells what its call came to.
use Rattle.std.proofs.Common.{Bool, ℤ, w32, subst}
use Rattle.std.proofs.lemmas.Int.{to_z-of_z}
use Rattle.burr_step.specs.Views.Driving.{Answers}
use Rattle.burr_judge.specs.declared.drive.DriveCommand.TheVariants as read
use Rattle.burr_judge.proofs.DriveAnswers.{tells, read_is, none_told, next_told, taken_told, refused_told, below_told, arrival_told}
use Rattle.burr_judge.proofs.drive.DriveCommandHandler.command.Goals as goal

pub returns-in_default : goal.returns-in_default
returns-in_default g c =
    let told = tells g.W.Sink c.args.sink.now c.put_no_command.new.sink c.args.self.now c.args.self.now c.args.line.now _ c.put_no_command.result
    (none_told c.args.self.now c.args.line.now c.in_default.ensures) c.put_no_command.ensures in
    record { ok = told.0; err = told.1; quit = told.2 }

pub returns-in-Next : goal.returns-in-Next
returns-in-Next g c =
    let is = read_is c.args.line.now c.in-Some.command read.Next c.in-Some.ensures c.in-Next.is in
    let told = tells g.W.Sink c.args.sink.now c.put_next.new.sink c.args.self.now c.next.new.self c.args.line.now _ c.put_next.result
    (next_told c.args.self.now c.next.new.self c.args.line.now c.next.result c.assembly.result.now is c.next.ensures c.assembly.ensures) c.put_next.ensures in
    record { ok = told.0; err = told.1; quit = told.2 }

pub returns-then-not-answer : goal.returns-then-not-answer
returns-then-not-answer g c =
    let is = read_is c.args.line.now c.in-Some.command (read.Answer c.in-Answer.question c.in-Answer.answer) c.in-Some.ensures c.in-Answer.is in
    let refused = subst (λ (b : Bool). Answers c.in-Answer.question c.in-Answer.answer c.args.self.now b c.answer.new.self) c.if-not-answer.true (subst (λ (n : ℤ). Answers c.in-Answer.question n c.args.self.now c.answer.result c.answer.new.self) (to_z-of_z w32 c.in-Answer.answer is.0.1) c.answer.ensures) in
    let told = tells g.W.Sink c.args.sink.now c.put_answer_refusal.new.sink c.args.self.now c.answer.new.self c.args.line.now _ c.put_answer_refusal.result
    (refused_told c.args.self.now c.answer.new.self c.args.line.now c.in-Answer.question c.in-Answer.answer is refused) c.put_answer_refusal.ensures in
    record { ok = told.0; err = told.1; quit = told.2 }

pub returns-else-not-answer : goal.returns-else-not-answer
returns-else-not-answer g c =
    let is = read_is c.args.line.now c.in-Some.command (read.Answer c.in-Answer.question c.in-Answer.answer) c.in-Some.ensures c.in-Answer.is in
    let took = subst (λ (b : Bool). Answers c.in-Answer.question c.in-Answer.answer c.args.self.now b c.answer.new.self) c.if-not-answer.false (subst (λ (n : ℤ). Answers c.in-Answer.question n c.args.self.now c.answer.result c.answer.new.self) (to_z-of_z w32 c.in-Answer.answer is.0.1) c.answer.ensures) in
    let told = tells g.W.Sink c.args.sink.now c.put_numbered.new.sink c.args.self.now c.answer.new.self c.args.line.now _ c.put_numbered.result
    (taken_told c.args.self.now c.answer.new.self c.args.line.now c.in-Answer.question c.in-Answer.answer is took) c.put_numbered.ensures in
    record { ok = told.0; err = told.1; quit = told.2 }

pub returns-then-number-moves : goal.returns-then-number-moves
returns-then-number-moves g c =
    let is = read_is c.args.line.now c.in-Some.command (read.GoTo c.in-GoTo.number) c.in-Some.ensures c.in-GoTo.is in
    let below = rw c.moves.ensures at c.if-number-moves.true in
    let told = tells g.W.Sink c.args.sink.now c.put_no_command-then-number-moves.new.sink c.args.self.now c.args.self.now c.args.line.now _ c.put_no_command-then-number-moves.result
    (below_told c.args.self.now c.args.line.now c.in-GoTo.number is below) c.put_no_command-then-number-moves.ensures in
    record { ok = told.0; err = told.1; quit = told.2 }

pub returns-else-number-moves : goal.returns-else-number-moves
returns-else-number-moves g c =
    let is = read_is c.args.line.now c.in-Some.command (read.GoTo c.in-GoTo.number) c.in-Some.ensures c.in-GoTo.is in
    let within = rw c.moves.ensures at c.if-number-moves.false in
    let told = tells g.W.Sink c.args.sink.now c.put_arrival.new.sink c.args.self.now c.go_to.new.self c.args.line.now _ c.put_arrival.result
    (arrival_told c.args.self.now c.go_to.new.self c.args.line.now c.in-GoTo.number c.go_to.result is within c.go_to.ensures.goes c.go_to.ensures.arrives)
    c.put_arrival.ensures in
    record { ok = told.0; err = told.1; quit = told.2 }
