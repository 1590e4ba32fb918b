-- Words, and the lines that they make.
use Rattle.std.specs.Prelude.{◌≡◌, ◌≢◌, ℕ, ◌≤◌, List, [], ◌∷◌, ◌++◌, All, Contains}
use Rattle.std.specs.List.{join_with_byte}

-- one or more printable bytes that are no blank
abbrev pub IsWord : List ℕ → Type 0
IsWord bytes = (bytes ≢ []) × All (λ b. (33 ≤ b) × (b ≤ 126)) bytes

-- words with a blank between each two, and the end of the line
abbrev pub text_line : List (List ℕ) → List ℕ
text_line words = join_with_byte 32 words ++ 10 ∷ []

-- the bytes are cut at the first separator
pub record IsCutAt (separator : ℕ) (bytes front rest : List ℕ) : Type 0 where
  pub parts : bytes ≡ front ++ separator ∷ rest
  pub first : ¬ Contains front separator
