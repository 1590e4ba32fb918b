use Rattle.std.proofs.Common.{arith, get_or}
use Rattle.std.proofs.lemmas.List.Elements.{All-get_or}
use Rattle.burr_voxels.specs.Grid.{origin}
use Rattle.burr_voxels.specs.Near.{IsWithin}
use Rattle.burr_blocking.proofs.Hulls.{fits_minus}
use Rattle.burr_blocking.proofs.cell_tables.places_from.Goals as goal

pub sub-requires : goal.sub-requires
sub-requires c =
    fits_minus (get_or c.args.cells.now c.loop-cell.cell-index origin) c.args.corner (All-get_or (IsWithin 79) c.args.cells.now c.loop-cell.cell-index origin (omega arith) c.requires.near) c.requires.corner
