use Rattle.burr_program.proofs.JudgedLines.{tells_by_front}
use Rattle.burr_program.proofs.commands.judge.ListJudgeCommandHandler.lines_are_short.Goals as goal

pub returns : goal.returns
returns g c = tells_by_front c.args.self.now
