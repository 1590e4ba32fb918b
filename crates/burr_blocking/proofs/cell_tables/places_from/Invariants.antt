use Rattle.std.proofs.Common.{◌≡◌, map, take}
use Rattle.burr_voxels.specs.Grid.{minus}
use Rattle.burr_blocking.specs.Views.Boxes.{place_of}
use Rattle.burr_blocking.proofs.cell_tables.places_from.Given as goal

-- the places of the cells so far
abbrev pub invariant-loop-cell : goal.invariant-loop-cell
invariant-loop-cell l = l.places.items ≡ map (λ to. place_of l.extent (minus to l.corner)) (take l.cell-index l.fn.cells)
