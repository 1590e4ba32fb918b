-- Sets of pieces, as numbers: bit p stands for piece p.
use Rattle.std.specs.Prelude.{ℕ, ◌^◌, Bool, bit_and, ◌==◌, IsBitSet}

-- piece p is in the set
abbrev pub IsInSet : ℕ → ℕ → Type 0
IsInSet set p = IsBitSet set p

-- the test on lists: piece p is not in the set
abbrev pub is_left_out : ℕ → ℕ → Bool
is_left_out set p = bit_and set (2 ^ p) == 0
