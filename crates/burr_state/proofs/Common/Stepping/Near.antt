-- Pieces stay within 256 of home.
use Rattle.std.proofs.Common.{◌≡◌, ℕ, List, Some, sym, subst, inl, inr, ◌∙◌}
use Rattle.std.specs.Prelude.{pos, slice_get, slice_index_or}
use Rattle.std.proofs.lemmas.Option.{get_or_from_slice_get, slice_get-get_or, same_Some}
use Rattle.burr_voxels.specs.declared.cell.Cell.{Cell}
use Rattle.burr_voxels.specs.declared.direction.Direction.{Direction}
use Rattle.burr_voxels.specs.Grid.{plus, along}
use Rattle.burr_voxels.specs.Near.{IsWithin}
use Rattle.burr_code.specs.PieceSets.{IsInSet}
use Rattle.burr_code.specs.declared.placement.Placement.{Placement}
use Rattle.burr_code.specs.declared.placement.Placement.TheVariants.{Apart, On}
use Rattle.burr_code.specs.Places.{LiesAt, AllLieIn}
use Rattle.burr_state.specs.Views.Offsets.{PositionHolds, AreNear}
use Rattle.burr_state.specs.Rules.Space.{AllOnBench, moved_places}
use Rattle.burr_code.proofs.Common.Conditions.{same_tray, lies_within}
use Rattle.burr_state.proofs.Common.Trays.Shifts.{IsShifted, lay_before_shift, lies_at_shifted}

-- where all places are near, so is each piece
pub near_lying : (places : List (Placement Cell)) (p tray : ℕ) (offset : Cell) → AreNear places → LiesAt places p tray offset → IsWithin 256 offset
near_lying places p tray offset near lies =
    let place : slice_index_or places p Apart ≡ On tray offset = get_or_from_slice_get places p (On tray offset) Apart lies in
    subst (PositionHolds (IsWithin 256)) place (near p Apart (lies_within places p tray (offset, lies)))

-- and all places are near where each piece is
pub near_of_lying : (places : List (Placement Cell)) → ((p tray : ℕ) (offset : Cell) → LiesAt places p tray offset → IsWithin 256 offset) → AreNear places
near_of_lying places each k d inside = by_place (slice_index_or places k d) (slice_get-get_or places k d inside)
  where
    by_place : (place : Placement Cell) → slice_get places k ≡ Some place → PositionHolds (IsWithin 256) place
    by_place Apart found = tt
    by_place (On tray offset) found = each k tray offset found

-- each piece of the tray is on the bench after the unit where each of the group is
pub on_bench_of_staying : (places : List (Placement Cell)) (tray group : ℕ) (direction : Direction) → AllOnBench places tray
    → ((p : ℕ) → IsInSet group p → (offset : Cell) → LiesAt places p tray offset → IsWithin 256 (plus offset (along direction (pos 1))))
    → AllOnBench (moved_places group direction places) tray
on_bench_of_staying places tray group direction near stays p offset lies = by_cases was.0 was.1 was.2
  where
    move : Cell → Cell
    move o = plus o (along direction (pos 1))

    was : (old : Cell) × LiesAt places p tray old × IsShifted move group p old offset
    was = lay_before_shift move group p tray offset places lies

    by_cases : (x : Cell) → LiesAt places p tray x → IsShifted move group p x offset → IsWithin 256 offset
    by_cases x lay (inl moved) = subst (IsWithin 256) (sym moved.1) (stays p moved.0 x lay)
    by_cases x lay (inr still) = subst (IsWithin 256) (sym still.1) (near p x lay)

pub staying_of_on_bench : (places : List (Placement Cell)) (tray group : ℕ) (direction : Direction) → AllOnBench (moved_places group direction places) tray
    → (p : ℕ) → IsInSet group p → (offset : Cell) → LiesAt places p tray offset → IsWithin 256 (plus offset (along direction (pos 1)))
staying_of_on_bench places tray group direction near p bit offset lies =
    near p (plus offset (along direction (pos 1))) (lies_at_shifted (λ (o : Cell). plus o (along direction (pos 1))) group p tray offset places bit lies)

-- all places are near after the unit
pub near_after_unit : (places : List (Placement Cell)) (tray group : ℕ) (direction : Direction) → AreNear places → AllLieIn places tray group → AllOnBench (moved_places group direction places) tray
    → AreNear (moved_places group direction places)
near_after_unit places tray group direction near here on_bench = near_of_lying (moved_places group direction places) each
  where
    move : Cell → Cell
    move o = plus o (along direction (pos 1))

    each : (p t : ℕ) (offset : Cell) → LiesAt (moved_places group direction places) p t offset → IsWithin 256 offset
    each p t offset lies = by_cases was.0 was.1 was.2
      where
        was : (old : Cell) × LiesAt places p t old × IsShifted move group p old offset
        was = lay_before_shift move group p t offset places lies

        by_cases : (x : Cell) → LiesAt places p t x → IsShifted move group p x offset → IsWithin 256 offset
        by_cases x lay (inl moved) =
            let lies_here = here p moved.0 in
            let same : t ≡ tray = same_tray t tray x lies_here.0 (same_Some _ _ (sym lay ∙ lies_here.1)) in
            on_bench p offset (subst (λ u. LiesAt (moved_places group direction places) p u offset) same lies)
        by_cases x lay (inr still) = subst (IsWithin 256) (sym still.1) (near_lying places p t x near lay)
