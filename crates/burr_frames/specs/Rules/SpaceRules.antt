-- The rules of instructions that move pieces: the checks in their order, and the state after.
use Rattle.std.specs.Prelude.{◌≢◌, ℕ, pos, List, [], ◌∷◌}
use Rattle.burr_text.specs.Checks.{needs}
use Rattle.burr_voxels.specs.declared.cell.Cell.{Cell}
use Rattle.burr_voxels.specs.declared.direction.Direction.{Direction}
use Rattle.burr_voxels.specs.Grid.{shifted, along}
use Rattle.burr_voxels.specs.CellSets.{Overlap, IsFree}
use Rattle.burr_voxels.specs.Near.{IsWithin}
use Rattle.burr_code.specs.declared.limits.TheConstants.{MOST_OFFSET}
use Rattle.burr_code.specs.PieceSets.{IsInSet}
use Rattle.burr_code.specs.declared.placement.Placement.{Placement}
use Rattle.burr_code.specs.declared.placement.Placement.TheVariants.{Apart, On}
use Rattle.burr_code.specs.Places.{LiesAt, AllLieIn, at_position, changed, aside_places, IsPartOfTray, IsEmptyTray}
use Rattle.burr_blocking.specs.declared.blocking.Query.{Query}
use Rattle.burr_blocking.specs.declared.blocking.Query.TheVariants as queries
use Rattle.burr_forms.specs.Rules.Forms.{Point, raised, IsSmallForm}
use Rattle.burr_assembly.specs.Rules.Homes.{HasHome}
use Rattle.burr_container.specs.Rules.Plans.{FormCell}
use Rattle.burr_frames.specs.declared.rule.Rule.TheVariants as rules
use Rattle.burr_frames.specs.Rules.States.{AbstractState, cell_at}
use Rattle.burr_frames.specs.Rules.Verdicts.{Rest, plainly, everywhere, everywhere_of_pairs, paying, falls_through}

-- each piece of the tray is on the bench
abbrev pub OnBenchAt : List (Placement FormCell) → ℕ → Point → Type 0
OnBenchAt places tray point =
    (p : ℕ) (c : FormCell) → LiesAt places p tray c → IsWithin MOST_OFFSET (cell_at point c)

-- p and q of the tray, with p gripped and q not, are to each other so
abbrev pub PairAt : (List Cell → List Cell → Type 0) → List (List Cell) → List (Placement FormCell)
    → ℕ → ℕ → Point → ℕ → ℕ → Type 0
PairAt Good homes places tray grip point p q =
    (p_home q_home : List Cell) (c d : FormCell) → IsInSet grip p → (¬ IsInSet grip q)
    → HasHome homes p p_home → HasHome homes q q_home
    → LiesAt places p tray c → LiesAt places q tray d
    → Good (shifted (cell_at point c) p_home) (shifted (cell_at point d) q_home)

-- forms moved one unit
abbrev pub moved_forms : Direction → FormCell → FormCell
moved_forms direction c = record {
  x = raised (along direction (pos 1)).x c.x;
  y = raised (along direction (pos 1)).y c.y;
  z = raised (along direction (pos 1)).z c.z;
}

abbrev pub moved : ℕ → Direction → List (Placement FormCell) → List (Placement FormCell)
moved grip direction places = changed (at_position (moved_forms direction)) grip 0 places

-- all numbers of the places' forms are small
abbrev pub AllSmallPlaces : List (Placement FormCell) → Type 0
AllSmallPlaces [] = Unit {0}
AllSmallPlaces (Apart ∷ places) = AllSmallPlaces places
AllSmallPlaces (On tray c ∷ places) =
    IsSmallForm c.x × IsSmallForm c.y × IsSmallForm c.z × AllSmallPlaces places

abbrev pub grip_rule : AbstractState → ℕ → Rest
grip_rule s group =
    needs (AllLieIn s.places s.tray group) (plainly rules.GripOff)
    (paying s λ paid. falls_through (record paid { grip = group }))

-- the grip and the rest of its tray do not overlap
abbrev pub DoesNotOverlap : List Cell → List Cell → Type 0
DoesNotOverlap a b = ¬ Overlap a b

-- `step`, with the places after it
abbrev pub step_to : List (List Cell) → AbstractState → List (Placement FormCell) → Rest
step_to homes s places =
    needs (AllSmallPlaces places) (plainly rules.FormTooLarge)
    (everywhere s (OnBenchAt places s.tray) rules.OffBench
    (everywhere_of_pairs s (PairAt DoesNotOverlap homes places s.tray s.grip) rules.Collision
    (paying s λ paid. falls_through (record paid { places = places }))))

abbrev pub step_rule : List (List Cell) → AbstractState → Direction → Rest
step_rule homes s direction =
    needs (s.grip ≢ 0) (plainly rules.BadGroup) (step_to homes s (moved s.grip direction s.places))

-- one group of cells goes out along the direction past the other
abbrev pub GoesFree : Direction → List Cell → List Cell → Type 0
GoesFree direction a b = IsFree a b direction

abbrev pub aside_rule : List (List Cell) → AbstractState → Direction → ℕ → Rest
aside_rule homes s direction tray =
    needs (IsPartOfTray s.grip s.places s.tray) (plainly rules.BadGroup)
    (needs (IsEmptyTray s.places tray) (plainly rules.TrayInUse)
    (everywhere s (OnBenchAt s.places s.tray) rules.OffBench
    (everywhere_of_pairs s (PairAt (GoesFree direction) homes s.places s.tray s.grip) rules.NotFree
    (paying s λ paid.
    falls_through (record paid { places = aside_places s.grip s.tray tray s.places; grip = 0 })))))

abbrev pub tray_rule : AbstractState → ℕ → Rest
tray_rule s tray = paying s λ paid. falls_through (record paid { tray = tray; grip = 0 })

-- how a gripped piece is to lie to one that is left in the tray
abbrev pub IsApartBy : Query → List Cell → List Cell → Type 0
IsApartBy queries.Overlap = DoesNotOverlap
IsApartBy (queries.Exit direction) = GoesFree direction
