-- Where home cells lie.
use Rattle.std.proofs.Common.{◌≡◌, ◌<◌, ℕ, ◌+◌, List, [], ◌∷◌, ◌++◌, arith, length, take, get_or, refl}
use Rattle.std.proofs.lemmas.List.{take_more, map-append}
use Rattle.burr_voxels.specs.Turns.{turned}
use Rattle.burr_assembly.specs.Rules.Text.{Turn, home_cells}
use Rattle.std.proofs.lemmas.List.Elements.{All-push}
use Rattle.std.specs.List.{All}
use Rattle.std.proofs.lemmas.Int.{ints}
use Rattle.burr_voxels.specs.declared.cell.Cell.{Cell}
use Rattle.burr_voxels.specs.Grid.{plus}
use Rattle.burr_voxels.specs.Near.{IsWithin}

-- a turned cell of a shape, moved to a position
pub IsWithin-home : (a b : Cell) → IsWithin 15 a → IsWithin 64 b → IsWithin 79 (plus a b)
IsWithin-home a b p q =
    let px = p.x_above in let py = p.y_above in let pz = p.z_above in
    let qx = q.x_above in let qy = q.y_above in let qz = q.z_above in
    let px' = p.x_below in let py' = p.y_below in let pz' = p.z_below in
    let qx' = q.x_below in let qy' = q.y_below in let qz' = q.z_below in
    record {
      x_above = omega (arith, ints);
      x_below = omega (arith, ints);
      y_above = omega (arith, ints);
      y_below = omega (arith, ints);
      z_above = omega (arith, ints);
      z_below = omega (arith, ints);
    }

-- one home cell more
pub AllWithin-home : (homes more : List Cell) (turned home position : Cell)
    → more ≡ homes ++ home ∷ [] → home ≡ plus turned position → IsWithin 15 turned → IsWithin 64 position
    → All (IsWithin 79) homes → All (IsWithin 79) more
AllWithin-home homes more turned home position grown placed near place all =
    rw grown (All-push (IsWithin 79) homes home all (rw placed (IsWithin-home turned position near place)))

-- the cells at home of one cell more
pub home_cells-more : (t : Turn) (position : Cell) (cells : List Cell) (i : ℕ) (d : Cell) (homes more : List Cell) (around home : Cell)
    → i < length cells → homes ≡ home_cells t position (take i cells) → more ≡ homes ++ home ∷ [] → home ≡ plus around position
    → around ≡ turned t.x t.y t.z (get_or cells i d) → more ≡ home_cells t position (take (i + 1) cells)
home_cells-more t position cells i d homes more around home inside so_far grown placed turns =
    let cut = take_more cells i d inside in
    rw (cut, map-append) (rw (grown, so_far, placed, turns) refl)
