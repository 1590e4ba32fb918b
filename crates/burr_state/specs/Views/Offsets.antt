-- How far pieces lie from home.
use Rattle.std.specs.Prelude.{List}
use Rattle.std.specs.List.{All}
use Rattle.burr_voxels.specs.declared.cell.Cell.{Cell}
use Rattle.burr_voxels.specs.Near.{IsWithin}
use Rattle.burr_code.specs.declared.limits.TheConstants.{MOST_OFFSET}
use Rattle.burr_code.specs.declared.placement.Placement.{Placement}
use Rattle.burr_code.specs.declared.placement.Placement.TheVariants.{Apart, On}

-- the position, if there is one, is so
abbrev pub PositionHolds : {Position : Type 0} → (Position → Type 0) → Placement Position → Type 0
PositionHolds P Apart = Unit {0}
PositionHolds P (On tray position) = P position

abbrev pub PositionsHold : {Position : Type 0} → (Position → Type 0) → List (Placement Position)
    → Type 0
PositionsHold P places = All (PositionHolds P) places

-- the pieces lie at most 256 from home, a coordinate
abbrev pub AreNear : List (Placement Cell) → Type 0
AreNear places = PositionsHold (IsWithin MOST_OFFSET) places
