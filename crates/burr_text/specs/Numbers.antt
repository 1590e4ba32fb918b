-- Numbers as they are written.
use Rattle.std.specs.Prelude.{◌≡◌, ◌≢◌, ℕ, ℤ, ◌≤◌, List, ◌∷◌, codes, All, slice_index, ◌⊎◌, Option, MatchOption, FitsSigned}
use Rattle.std.specs.Int.{w32}
use Rattle.std.specs.Fmt.{signed_decimal}

-- digits whose first isn't `0`
pub record IsCount (bytes : List ℕ) : Type 0 where
  pub first : 49 ≤ slice_index bytes 0
  pub digits : All (λ b. (48 ≤ b) × (b ≤ 57)) bytes

-- `0`, or a count, perhaps after a `-`; std's text of a number is no definition here, since it
-- holds for 64 digits at most
abbrev pub IsNumber : List ℕ → Type 0
IsNumber bytes =
    (bytes ≡ codes "0") ⊎ (IsCount bytes ⊎ ((rest : List ℕ) × (bytes ≡ 45 ∷ rest) × IsCount rest))

-- the number of 32 bits that is written so, if one is
abbrev pub IsInteger : List ℕ → Option ℤ → Type 0
IsInteger text found =
    MatchOption found ((n : ℤ) → FitsSigned w32 n → text ≢ signed_decimal n) (λ n.
    text ≡ signed_decimal n)
