-- Lines of a text, each ended by a line feed.
use Rattle.std.specs.Prelude.{◌≡◌, ℕ, List, [], ◌∷◌, ◌++◌, Contains, ◌⊎◌}

-- the bytes hold no end of a line
abbrev pub IsUnended : List ℕ → Type 0
IsUnended bytes = ¬ Contains bytes 10

-- nothing, or lines that are each ended
abbrev pub IsLines : List ℕ → Type 0
IsLines text = (text ≡ []) ⊎ ((front : List ℕ) × (text ≡ front ++ 10 ∷ []))
