-- Labels and their bytes.
use Rattle.std.specs.Prelude.{◌≡◌, ℕ, ◌+◌, ◌*◌, List, [], ◌∷◌}
use Rattle.burr_code.specs.Instruction.{label_bytes, AreLabels}

-- the labels of bytes, two bytes a label, the higher first
abbrev pub labels_in : List ℕ → List ℕ
labels_in (high ∷ low ∷ rest) = (high * 256 + low) ∷ labels_in rest
labels_in bytes = []

-- the bytes are those of labels that `pick` may offer
pub record IsOffer (bytes : List ℕ) : Type 0 where
  pub spelled : bytes ≡ label_bytes (labels_in bytes)
  pub in_range : AreLabels (labels_in bytes)
