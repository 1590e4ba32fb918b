-- Rows of bits: this project's own.
use Rattle.std.specs.Prelude.{◌≤◌, ◌<◌, length, ◌≡◌, ◌↔◌, ◌⊎◌, ℕ, zero, suc, ◌*◌, ◌%◌, ◌^◌, List, [], ◌∷◌, slice_index_or, bit_or}
use Rattle.std.specs.Int.{bit_at}

-- bit k of a row is 1
abbrev pub HasBit : ℕ → ℕ → Type 0
HasBit row k = bit_at row k ≡ 1

-- bit k of row n is 1
abbrev pub HasBitAt : List ℕ → ℕ → ℕ → Type 0
HasBitAt rows n k = HasBit (slice_index_or rows n 0) k

-- the first row joined with the second one, shifted k places
abbrev pub or_shifted : ℕ → ℕ → ℕ → ℕ
or_shifted k a b = bit_or a (b * 2 ^ k % 2 ^ 32)

-- the first row joined with the second one, shifted j places and shifted k places
abbrev pub or_both : ℕ → ℕ → ℕ → ℕ → ℕ
or_both j k a b = or_shifted k (or_shifted j a b) b

-- the rows from the first one on joined with others, one by one
abbrev pub joined_from : (ℕ → ℕ → ℕ) → ℕ → List ℕ → List ℕ → List ℕ
joined_from join zero rows [] = rows
joined_from join zero [] (other ∷ others) = []
joined_from join zero (row ∷ rows) (other ∷ others) =
    join row other ∷ joined_from join zero rows others
joined_from join (suc first) [] others = []
joined_from join (suc first) (row ∷ rows) others = row ∷ joined_from join first rows others

-- the bits that were set are set, and the one of this row and column; no others
abbrev pub SetsBit : List ℕ → List ℕ → ℕ → ℕ → Type 0
SetsBit old new row column = (n k : ℕ) →
    HasBitAt new n k ↔ (HasBitAt old n k ⊎ ((n ≡ row) × (k ≡ column)))

-- from row i on, row m is the first that may have a bit; the end of the rows where none has
pub record IsNext (rows : List ℕ) (i m : ℕ) : Type 0 where
  pub from : i ≤ m
  pub to : m ≤ length rows
  pub none : (j : ℕ) → i ≤ j → j < m → slice_index_or rows j 0 ≡ 0

-- for each row, and for the end of the rows, the first from there on that may have a bit
abbrev pub AreNext : List ℕ → List ℕ → Type 0
AreNext rows next = (i : ℕ) → i ≤ length rows → IsNext rows i (slice_index_or next i 0)
