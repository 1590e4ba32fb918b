-- For crates above: the pieces of an assembly have their cells at home in one way.
use Rattle.std.proofs.Common.{◌≡◌, List, [], ◌∷◌, refl}
use Rattle.burr_voxels.specs.declared.cell.Cell.{Cell}
use Rattle.burr_assembly.specs.Rules.Text.{Assembly, Piece}
use Rattle.burr_assembly.specs.Views.Drawings.{AreDistinct}
use Rattle.burr_assembly.proofs.Sharing.{one_cells}
use Rattle.burr_assembly.specs.Rules.Homes.{HaveCells}

pub one_homes : (a : Assembly) (pieces : List Piece) (homes others : List (List Cell)) → AreDistinct a.shapes → HaveCells a pieces homes → HaveCells a pieces others → homes ≡ others
one_homes a [] [] [] distinct h k = refl
one_homes a [] [] (cells ∷ others) distinct h k = absurd k
one_homes a [] (cells ∷ homes) others distinct h k = absurd h
one_homes a (p ∷ pieces) [] others distinct h k = absurd h
one_homes a (p ∷ pieces) (cells ∷ homes) [] distinct h k = absurd k
one_homes a (p ∷ pieces) (cells ∷ homes) (also ∷ others) distinct h k =
    let first = one_cells a.shapes p cells also distinct h.0 k.0 in
    let rest = one_homes a pieces homes others distinct h.1 k.1 in
    λ i. first i ∷ rest i
