use Rattle.burr_assembly.proofs.Common.HomeSizes.{homes_are_small}
use Rattle.burr_blocking.proofs.triangle.Classes.cells.Goals as goal

pub returns-clause-small : goal.returns-clause-small
returns-clause-small c =
    homes_are_small c.args.assembly.now c.requires.assembly _ c.cells.result.now c.cells.ensures.home
