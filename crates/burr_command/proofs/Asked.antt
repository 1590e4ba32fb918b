-- Facts of the words of a command line.
use Rattle.std.proofs.Common.{◌≡◌, ◌++◌, ◌∷◌, [], ℕ, List, String, Global, ap, map, refl, string_bytes, sym}
use Rattle.std.specs.List.{join_by}
use Rattle.std.proofs.lemmas.List.Folds.{flat_map-map}

-- words joined as strings are joined by their bytes
pub joined_bytes : (separator : List ℕ) (words : List (String Global))
    → join_by string_bytes separator words ≡ join_by (λ word. word) separator (map string_bytes words)
joined_bytes separator [] = refl
joined_bytes separator (word ∷ words) =
    ap (λ rest. string_bytes word ++ rest) (sym (flat_map-map (λ other. separator ++ other) string_bytes words))
