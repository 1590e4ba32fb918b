use Rattle.burr_judge.proofs.DriveAnswers.{tells_by_front}
use Rattle.burr_judge.proofs.drive.DriveCommandHandler.lines_are_short.Goals as goal

pub returns : goal.returns
returns c = tells_by_front c.args.self.now c.drive_lines_are_short.ensures.short
