use Rattle.burr_judge.proofs.CommandAnswers.{tells_by_front}
use Rattle.burr_judge.proofs.commands.StepperCommandHandler.lines_are_short.Goals as goal

pub returns : goal.returns
returns c = tells_by_front c.args.self.now c.lines_of_commands_are_short.ensures.short c.labels_are_few.ensures
