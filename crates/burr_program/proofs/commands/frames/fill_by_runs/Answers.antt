use Rattle.std.proofs.Common.{zero}
use Rattle.burr_program.proofs.HowFar.{tells_nothing}
use Rattle.burr_program.proofs.commands.frames.fill_by_runs.Goals as goal

pub returns-in_err-labels-clause-told : goal.returns-in_err-labels-clause-told
returns-in_err-labels-clause-told g c = (zero, tells_nothing g.E.Sink c.args.errors.now c.requires.told)

pub returns-in_err-sightings-clause-told : goal.returns-in_err-sightings-clause-told
returns-in_err-sightings-clause-told g c = (zero, tells_nothing g.E.Sink c.args.errors.now c.requires.told)
