-- The input: an assembly's text, and after it a last line with code.
use Rattle.std.specs.Prelude.{◌≡◌, ℕ, ◌+◌, ◌/◌, ◌%◌, ◌≤◌, ◌<◌, List, [], ◌∷◌, ◌++◌, Bool, ◌&&◌, ◌||◌, nat_le, length, codes, if◌then◌else◌, nat_lt}
use Rattle.std.specs.List.{All, flat_map}
use Rattle.burr_text.specs.Lines.{IsLines}

-- the n-th lower case hexadecimal digit
abbrev pub hex_digit : ℕ → ℕ
hex_digit n = if nat_lt n 10 then 48 + n else 87 + n

-- a byte is a lower case hexadecimal digit
abbrev pub is_hex_digit : ℕ → Bool
is_hex_digit b = (nat_le 48 b && nat_le b 57) || (nat_le 97 b && nat_le b 102)

-- two digits for each byte
abbrev pub hex : List ℕ → List ℕ
hex bytes = flat_map (λ b. hex_digit (b / 16) ∷ hex_digit (b % 16) ∷ []) bytes

-- 1 to 4,096 bytes
pub record IsCode (code : List ℕ) : Type 0 where
  pub bytes : All (λ b. b < 256) code
  pub some : 1 ≤ length code
  pub short : length code ≤ 4096

-- the line is the word `code` and the code's digits
abbrev pub IsCodeLine : List ℕ → List ℕ → Type 0
IsCodeLine line code = IsCode code × (line ≡ codes "code " ++ hex code)

-- the input is a text and after it a last line with this code
abbrev pub IsInput : List ℕ → List ℕ → List ℕ → Type 0
IsInput input text code =
    IsLines text × ((line : List ℕ) × IsCodeLine line code × (input ≡ text ++ line ++ 10 ∷ []))
