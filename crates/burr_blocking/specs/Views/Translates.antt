-- Cells that are those of another piece displaced, and the displacement of two such pieces.
use Rattle.std.specs.Prelude.{◌≡◌, ℕ, ℤ, pos, neg_ℤ, Bool, true, false, List, slice_index_or}
use Rattle.burr_voxels.specs.declared.cell.Cell.{Cell}
use Rattle.burr_voxels.specs.Grid.{plus, minus, shifted}
use Rattle.burr_assembly.specs.Rules.Homes.{home_at}

-- the second cells are the first ones, in their order, displaced by d
abbrev pub IsTranslate : List Cell → Cell → List Cell → Type 0
IsTranslate ps d qs = qs ≡ shifted d ps

-- Two pieces are translates of two others by a and by b: the first, displaced by d, lies to the
-- second as the first of the others, displaced by so much, lies to the second of them.
abbrev pub displacement_of : Cell → Cell → Cell → Cell
displacement_of a b d = minus (plus a d) b

-- the home cells of the representative of a class
abbrev pub representative_at : List (List Cell) → List ℕ → ℕ → List Cell
representative_at homes representatives class =
    home_at homes (slice_index_or representatives class 0)

-- -1 where a pair is turned round, else 1
abbrev pub sign_of : Bool → ℤ
sign_of false = pos 1
sign_of true = neg_ℤ (pos 1)
