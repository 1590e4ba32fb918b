-- For crates above: how far the cells of a piece at home lie from each other.
use Rattle.std.proofs.Common.{ℕ, ◌≤◌, List, length, arith, sym, subst, Contains}
use Rattle.std.proofs.lemmas.Int.{ints}
use Rattle.std.proofs.lemmas.List.Elements.{All-contains}
use Rattle.burr_voxels.specs.declared.cell.Cell.{Cell}
use Rattle.burr_voxels.specs.Grid.{plus, minus}
use Rattle.burr_voxels.specs.Near.{IsWithin}
use Rattle.burr_voxels.specs.Turns.{turned}
use Rattle.burr_voxels.proofs.Common.Freedom.{Contains-from_map}
use Rattle.burr_voxels.proofs.Common.Turning.{turned_apart}
use Rattle.burr_assembly.specs.Rules.Text.{Drawing, IsDrawing, Piece, HasCells, Turn, IsTurn, home_cells, drawn_cells}
use Rattle.burr_assembly.specs.Rules.Homes.{DiameterAtMost}
use Rattle.burr_assembly.specs.Laws.Texts.{HomesAreSmall}
use Rattle.burr_assembly.proofs.Boxes.{Boxed, drawn_boxed}
use Rattle.burr_assembly.proofs.Common.HomeCells.{piece_of_home}

-- two cells of one box lie less than its sides apart
boxed_apart : (w h d : ℕ) (a b : Cell) → Boxed w h d a → Boxed w h d b → w ≤ 16 → h ≤ 16 → d ≤ 16 → IsWithin 15 (minus a b)
boxed_apart w h d a b in_a in_b wide high deep = record {
  x_above = omega (arith, ints);
  x_below = omega (arith, ints);
  y_above = omega (arith, ints);
  y_below = omega (arith, ints);
  z_above = omega (arith, ints);
  z_below = omega (arith, ints);
}

-- and so do two cells of a drawing
drawn_apart : (s : Drawing) → IsDrawing s → DiameterAtMost 15 (drawn_cells s.layers)
drawn_apart s is a b has_a has_b =
    let In = Boxed is.width.0 is.rows.0 (length s.layers) in
    let all = drawn_boxed s is in
    boxed_apart is.width.0 is.rows.0 (length s.layers) a b (All-contains In (drawn_cells s.layers) a all has_a) (All-contains In (drawn_cells s.layers) b all has_b) is.width.2 is.rows.2 is.layers.1

-- cells that are moved alike lie as far apart as before
moved_apart : (n : ℕ) (a b position : Cell) → IsWithin n (minus a b) → IsWithin n (minus (plus a position) (plus b position))
moved_apart n a b position h = record {
  x_above = omega (arith, ints);
  x_below = omega (arith, ints);
  y_above = omega (arith, ints);
  y_below = omega (arith, ints);
  z_above = omega (arith, ints);
  z_below = omega (arith, ints);
}

-- a turn and a move take no two of the cells farther apart
home_apart : (t : Turn) (position : Cell) (n : ℕ) (cells : List Cell) → IsTurn t → DiameterAtMost n cells → DiameterAtMost n (home_cells t position cells)
home_apart t position n cells is near a b has_a has_b =
    let place = λ (c : Cell). plus (turned t.x t.y t.z c) position in
    let from_a = Contains-from_map place cells a has_a in
    let from_b = Contains-from_map place cells b has_b in
    let apart = turned_apart t.x t.y t.z is n from_a.0 from_b.0 (near from_a.0 from_b.0 from_a.1 from_b.1) in
    rw (sym from_a.2, sym from_b.2) (moved_apart n _ _ position apart)

-- no two cells of a piece lie farther apart than those of its drawing
cells_apart : (shapes : List Drawing) (p : Piece) (cells : List Cell) → IsTurn p.turn → HasCells shapes p cells → ((s : Drawing) → Contains shapes s → IsDrawing s) → DiameterAtMost 15 cells
cells_apart shapes p cells turn (s, has, named, is) drawn =
    subst (DiameterAtMost 15) (sym is) (home_apart p.turn p.position 15 (drawn_cells s.layers) turn (drawn_apart s (drawn s has)))

pub homes_are_small : HomesAreSmall
homes_are_small a whole p cells home =
    let (piece, is, has) = piece_of_home a p cells whole home in
    cells_apart a.shapes piece cells is.turn has (λ s. All-contains IsDrawing a.shapes s whole.each_shape)
