-- Instructions that move pieces: their traps in the order in which they are tried, and then the
-- effect.
use Rattle.std.specs.Prelude.{◌≡◌, ◌≢◌, ℕ, pos, List, slice_get, Some, None, Bool, true, false}
use Rattle.burr_text.specs.Checks.{needs}
use Rattle.burr_voxels.specs.declared.cell.Cell.{Cell}
use Rattle.burr_voxels.specs.declared.direction.Direction.{Direction}
use Rattle.burr_voxels.specs.Grid.{plus, shifted, along}
use Rattle.burr_voxels.specs.CellSets.{Overlap, IsFree}
use Rattle.burr_voxels.specs.Near.{IsWithin}
use Rattle.burr_code.specs.declared.limits.TheConstants.{MOST_OFFSET}
use Rattle.burr_code.specs.Instruction.{Grip, Step, Aside, Tray}
use Rattle.burr_code.specs.PieceSets.{IsInSet}
use Rattle.burr_code.specs.declared.placement.Placement.{Placement}
use Rattle.burr_code.specs.declared.placement.Placement.TheVariants.{Apart}
use Rattle.burr_code.specs.Places.{LiesAt, AllLieIn, at_position, changed, aside_places, IsPartOfTray, IsEmptyTray}
use Rattle.burr_assembly.specs.Rules.Homes.{HasHome}
use Rattle.burr_state.specs.declared.effect.Trap.TheVariants as traps
use Rattle.burr_state.specs.declared.effect.Motion.{Motion}
use Rattle.burr_state.specs.Rules.Bench.{BenchState, Setup}
use Rattle.burr_state.specs.Rules.Next.{Next, Traps, goes, after}

-- piece p is apart
abbrev pub LiesApart : {Position : Type 0} → List (Placement Position) → ℕ → Type 0
LiesApart places p = slice_get places p ≡ Some Apart

-- no two pieces of this tray overlap
abbrev pub NoOverlapIn : List (List Cell) → List (Placement Cell) → ℕ → Type 0
NoOverlapIn homes places tray =
    (p q : ℕ) (p_home q_home : List Cell) (p_offset q_offset : Cell) → p ≢ q
    → HasHome homes p p_home → HasHome homes q q_home
    → LiesAt places p tray p_offset → LiesAt places q tray q_offset
    → ¬ Overlap (shifted p_offset p_home) (shifted q_offset q_home)

-- no two pieces of any tray overlap
abbrev pub NoOverlap : List (List Cell) → List (Placement Cell) → Type 0
NoOverlap homes places = (tray : ℕ) → NoOverlapIn homes places tray

-- each piece of this tray is on the bench
abbrev pub AllOnBench : List (Placement Cell) → ℕ → Type 0
AllOnBench places tray =
    (p : ℕ) (offset : Cell) → LiesAt places p tray offset → IsWithin MOST_OFFSET offset

-- Shifted any whole number of units along a direction, no piece of the group overlaps a piece of
-- the tray that is not in the group.
abbrev pub IsFreeGroup : List (List Cell) → List (Placement Cell) → ℕ → ℕ → Direction → Type 0
IsFreeGroup homes places tray group direction =
    (p q : ℕ) (p_home q_home : List Cell) (p_offset q_offset : Cell) → IsInSet group p
    → (¬ IsInSet group q)
    → HasHome homes p p_home → HasHome homes q q_home
    → LiesAt places p tray p_offset → LiesAt places q tray q_offset
    → IsFree (shifted p_offset p_home) (shifted q_offset q_home) direction

-- the places after the group moved by one unit
abbrev pub moved_places : ℕ → Direction → List (Placement Cell) → List (Placement Cell)
moved_places group direction places =
    changed (at_position (λ offset. plus offset (along direction (pos 1)))) group 0 places

abbrev pub motion_of : ℕ → ℕ → Direction → Bool → Motion
motion_of group tray direction out =
    record { group = group; tray = tray; dir = direction; out = out }

-- `grip`: the grip becomes a set of pieces of the current tray
abbrev pub gripping : BenchState → ℕ → Next → Type 0
gripping s set =
    needs (AllLieIn s.places s.tray set) (Traps traps.GripOff)
    (goes (record (after (Grip set) s.running s) { grip = set }) None)

-- `step`: the gripped pieces move by one unit
abbrev pub stepping : Setup → BenchState → Direction → Next → Type 0
stepping setup s direction =
    needs (s.grip ≢ 0) (Traps traps.BadGroup)
    (needs (AllOnBench (moved_places s.grip direction s.places) s.tray) (Traps traps.OffBench)
    (needs (NoOverlapIn setup.homes (moved_places s.grip direction s.places) s.tray)
    (Traps traps.Collision)
    (goes (record (after (Step direction) s.running s) {
      places = moved_places s.grip direction s.places;
    })
    (Some (motion_of s.grip s.tray direction false)))))

-- `aside`: the grip is taken out of the current tray, to a tray without pieces
abbrev pub going_aside : Setup → BenchState → Direction → ℕ → Next → Type 0
going_aside setup s direction tray =
    needs (IsPartOfTray s.grip s.places s.tray) (Traps traps.BadGroup)
    (needs (IsEmptyTray s.places tray) (Traps traps.TrayInUse)
    (needs (IsFreeGroup setup.homes s.places s.tray s.grip direction) (Traps traps.NotFree)
    (goes (record (after (Aside direction tray) s.running s) {
      places = aside_places s.grip s.tray tray s.places;
      grip = 0;
    })
    (Some (motion_of s.grip s.tray direction true)))))

-- `tray`: another tray becomes the current one, and the grip is empty
abbrev pub choosing_tray : BenchState → ℕ → Next → Type 0
choosing_tray s tray = goes (record (after (Tray tray) s.running s) { tray = tray; grip = 0 }) None
