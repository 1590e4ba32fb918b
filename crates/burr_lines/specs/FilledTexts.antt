-- Plan texts in which `auto` stands, and texts that have something in its place.
use Rattle.std.specs.Prelude.{◌≡◌, ◌⊎◌, ◌++◌, ℕ, List, [], ◌∷◌, Contains, codes}
use Rattle.std.specs.List.{flat_map}

-- a line that ends by the word `auto`
abbrev pub EndsByAuto : List ℕ → Type 0
EndsByAuto line =
    (front : List ℕ) × (line ≡ front ++ codes "auto\n") × ¬ Contains front 10

-- a stretch of a text, and what stands in its place: the same, or anything for a line that ends by `auto`
abbrev pub StandsFor : List ℕ × List ℕ → Type 0
StandsFor stretch = (stretch.1 ≡ stretch.0) ⊎ EndsByAuto stretch.0

-- all of these stretches
abbrev pub StandFor : List (List ℕ × List ℕ) → Type 0
StandFor [] = Unit {0}
StandFor (stretch ∷ more) = StandsFor stretch × StandFor more

-- The text is kept but for lines that end by the word `auto`.
abbrev pub IsFilledIn : List ℕ → List ℕ → Type 0
IsFilledIn text made =
    (stretches : List (List ℕ × List ℕ)) × StandFor stretches
    × (text ≡ flat_map (λ (stretch : List ℕ × List ℕ). stretch.0) stretches)
    × (made ≡ flat_map (λ (stretch : List ℕ × List ℕ). stretch.1) stretches)
