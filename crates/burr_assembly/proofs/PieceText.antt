-- A piece's line, part after part.
use Rattle.std.proofs.Common.{◌≡◌, ℕ, List, [], ◌∷◌, ◌++◌, codes, append_assoc}
use Rattle.burr_text.specs.Words.{text_line}

-- the words with a blank between each two, as they are written
pub written_line : (old name shape turn x y z : List ℕ)
    → (((((((((old ++ codes "piece ") ++ name) ++ 32 ∷ []) ++ shape) ++ 32 ∷ []) ++ turn) ++ 32 ∷ x) ++ 32 ∷ y) ++ 32 ∷ z) ++ 10 ∷ []
    ≡ old ++ text_line (codes "piece" ∷ name ∷ shape ∷ turn ∷ x ∷ y ∷ z ∷ [])
written_line old name shape turn x y z = simp append_assoc
