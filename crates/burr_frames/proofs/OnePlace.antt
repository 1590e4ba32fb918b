-- A place one unit along a direction.
use Rattle.std.proofs.Common.{◌≡◌, ◌≤◌, ℕ, ℤ, [], ◌∷◌, arith}
use Rattle.std.specs.Prelude.{pos, neg_ℤ, ◌↔◌}
use Rattle.std.specs.Int.RustNames.{unsigned_abs}
use Rattle.burr_voxels.specs.declared.direction.Direction.{Direction}
use Rattle.burr_voxels.specs.Grid.{along}
use Rattle.burr_code.specs.declared.placement.Placement.{Placement}
use Rattle.burr_code.specs.declared.placement.Placement.TheVariants.{On}
use Rattle.burr_code.specs.Places.{at_position}
use Rattle.burr_forms.specs.Rules.Forms.{IsSmallForm, raised}
use Rattle.burr_container.specs.Rules.Plans.{FormCell}
use Rattle.burr_frames.specs.Rules.SpaceRules.{moved_forms, AllSmallPlaces}

-- the place is small one unit on where each of its forms is
pub small_shifted : (direction : Direction) (x y z : ℤ) (tray : ℕ) (cell : FormCell) (place : Placement FormCell)
    → x ≡ (along direction (pos 1)).x → y ≡ (along direction (pos 1)).y → z ≡ (along direction (pos 1)).z → place ≡ On tray cell
    → (IsSmallForm (raised x cell.x) × IsSmallForm (raised y cell.y) × IsSmallForm (raised z cell.z))
    ↔ AllSmallPlaces (at_position (moved_forms direction) place ∷ [])
small_shifted direction x y z tray cell place e_x e_y e_z is =
    rw (e_x, e_y, e_z, is) (λ each. (each.0, each.1, each.2, tt), λ all. (all.0, all.1, all.2))

abbrev pub IsOneAtMost : ℤ → Type 0
IsOneAtMost n = unsigned_abs n ≤ 1

one_on : IsOneAtMost (pos 1)
one_on = omega arith

one_back : IsOneAtMost (neg_ℤ (pos 1))
one_back = omega arith
