-- Each line is answered by its judgement.
use Rattle.std.proofs.Common.{List, ℕ, subst, sym}
use Rattle.burr_program.specs.ListEnds.{LineEnds, Tally}
use Rattle.burr_program.proofs.JudgedLines.{Told, told}
use Rattle.burr_program.proofs.commands.judge.ListJudgeCommandHandler.command.Goals as goal

pub returns-clause-ok : goal.returns-clause-ok
returns-clause-ok g c =
    let ends = subst (λ (said : List ℕ). LineEnds c.self.inside.separator c.args.line.now said c.judge_line-status.result.0) (sym c.bytes.ensures) c.judge_line-status.ensures in
    (subst (λ (old : Tally). Told g.W.Sink c.args.sink.now c.tell.new.sink old c.args.line.now c.tell.new.self c.tell.result) c.self.view_is
    (told g.W.Sink c.args.sink.now c.tell.new.sink _ c.args.line.now c.bytes.result.now c.judge_line-status.result.0 c.tell.new.self c.tell.result ends c.tell.ensures)).ok

pub returns-clause-err : goal.returns-clause-err
returns-clause-err g c =
    let ends = subst (λ (said : List ℕ). LineEnds c.self.inside.separator c.args.line.now said c.judge_line-status.result.0) (sym c.bytes.ensures) c.judge_line-status.ensures in
    (subst (λ (old : Tally). Told g.W.Sink c.args.sink.now c.tell.new.sink old c.args.line.now c.tell.new.self c.tell.result) c.self.view_is
    (told g.W.Sink c.args.sink.now c.tell.new.sink _ c.args.line.now c.bytes.result.now c.judge_line-status.result.0 c.tell.new.self c.tell.result ends c.tell.ensures)).err
