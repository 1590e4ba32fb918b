use Rattle.std.proofs.Common.{◌≡◌, ◌<◌, ℕ, length, slice_index_or}
use Rattle.burr_voxels.specs.Near.{IsWithin}
use Rattle.burr_code.specs.PieceSets.{IsInSet}
use Rattle.burr_code.specs.declared.placement.Placement.{Placement}
use Rattle.burr_voxels.specs.declared.cell.Cell.{Cell}
use Rattle.burr_state.specs.Views.Offsets.{PositionHolds}
use Rattle.burr_state.specs.Rules.Space.{moved_places}
use Rattle.burr_state.proofs.state.shift_group.Given as goal

-- those that are left are still to be moved, from near home
abbrev pub invariant-loop-rest : goal.invariant-loop-rest
invariant-loop-rest l =
    (moved_places l.rest l.direction l.places ≡ moved_places l.group l.direction l.fn.places)
    × (length l.places ≡ length l.fn.places)
    × ((k : ℕ) (d : Placement Cell) → IsInSet l.rest k → k < length l.places → PositionHolds (IsWithin 256) (slice_index_or l.places k d))

abbrev pub decreases-loop-rest : goal.decreases-loop-rest
decreases-loop-rest l = l.rest
