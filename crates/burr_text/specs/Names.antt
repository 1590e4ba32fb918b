-- Names.
use Rattle.std.specs.Prelude.{◌≤◌, ℕ, List, length, slice_index, Bool, ◌||◌, ◌&&◌, ◌==◌, nat_le, IsTrue}
use Rattle.std.specs.List.{list_all}

abbrev pub is_letter : ℕ → Bool
is_letter b = (nat_le 65 b && nat_le b 90) || (nat_le 97 b && nat_le b 122)

abbrev pub is_digit : ℕ → Bool
is_digit b = nat_le 48 b && nat_le b 57

-- a letter, a digit, `_` or `-`
abbrev pub is_name_byte : ℕ → Bool
is_name_byte b = is_letter b || is_digit b || (b == 95) || (b == 45)

-- 1 to 32 letters, digits, `_` and `-`, a letter first
pub record IsName (bytes : List ℕ) : Type 0 where
  pub first : IsTrue (is_letter (slice_index bytes 0))
  pub each : IsTrue (list_all is_name_byte bytes)
  pub short : length bytes ≤ 32
