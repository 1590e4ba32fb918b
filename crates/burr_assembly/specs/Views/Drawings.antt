-- Drawings as the reader keeps them.
use Rattle.std.specs.Prelude.{◌≡◌, ◌≢◌, ℕ, List, AllPairs, Contains, MatchOption, Option}
use Rattle.burr_assembly.specs.Rules.Text.{Drawing}

-- a shape that has not ended: its finished layers, and the rows of a layer that has begun
pub record Sketched : Type 0 where
  pub drawing : Drawing
  pub begun : Option (List (List ℕ))

-- no two shapes have one name
abbrev pub AreDistinct : List Drawing → Type 0
AreDistinct shapes = AllPairs (λ (s t : Drawing). s.name ≢ t.name) shapes

-- a shape of this name, if there is one
abbrev pub IsShapeOf : List Drawing → List ℕ → Option Drawing → Type 0
IsShapeOf shapes name found =
    MatchOption found ((s : Drawing) → Contains shapes s → s.name ≢ name) (λ s.
    Contains shapes s × (s.name ≡ name))
