-- Bits of rows that are shifted and joined.
use Rattle.std.proofs.Common.{◌≡◌, ◌↔◌, ℕ, zero, suc, ◌+◌, ◌-◌, ◌*◌, ◌/◌, ◌%◌, ◌^◌, ◌<◌, ◌≤◌, min, max, Bool, List, [], ◌∷◌, length, refl, sym, ap, ◌∙◌, subst, arith, slice_index_or, slice_set, inl, inr}
use Rattle.std.specs.Prelude.{◌⊎◌, ◌≢◌, bit_or, IsTrue}
use Rattle.std.specs.Prelude.{ℤ, pos, ◌+ℤ◌, ◌≤ℤ◌}
use Rattle.std.specs.Int.{bit_at, int_min, int_max}
use Rattle.std.proofs.lemmas.Int.{ints, clamps}
use Rattle.std.proofs.lemmas.Nat.{and_mask, shr-shr, pow_pos}
use Rattle.std.proofs.lemmas.Nat.Bits.{bit_at_and, bit_at_or, bit_at-zero, bit_at_ones, bit_at-lt, bit_at_cat_low, bit_at_cat_high, bit_at_above, bit_at-pow_same, bit_at-pow_other, same_from_bits}
use native.Mathlib.Decide.{ℕ_discrete, dec_lt}
use Rattle.burr_blocking.specs.Views.Bits.{HasBit, HasBitAt, SetsBit, or_shifted, joined_from, or_both}

-- One row

min_one : (a b : ℕ) → b ≡ 1 → a < 2 → min a b ≡ a
min_one a b one lt = omega arith

mod_bit : (w n i : ℕ) → i < w → bit_at (n % 2 ^ w) i ≡ bit_at n i
mod_bit w n i lt =
    ap (λ x. bit_at x i) (sym (and_mask n w)) ∙ bit_at_and n (2 ^ w - 1) i ∙ min_one (bit_at n i) (bit_at (2 ^ w - 1) i) (bit_at_ones w i lt) (bit_at-lt n i)

add_none : (n : ℕ) → n ≡ n + 0
add_none n = omega arith

shl_high : (w y k j i : ℕ) → i ≡ k + j → i < w → bit_at (y * 2 ^ k % 2 ^ w) i ≡ bit_at y j
shl_high w y k j i is lt =
    let some : 0 < 2 ^ k = pow_pos k in
    let left : i - k ≡ j = omega arith in
    mod_bit w (y * 2 ^ k) i lt ∙ ap (λ x. bit_at x i) (add_none (y * 2 ^ k)) ∙ bit_at_cat_high y k 0 i some (omega arith) ∙ ap (bit_at y) left

shl_low : (w y k i : ℕ) → i < k → i < w → bit_at (y * 2 ^ k % 2 ^ w) i ≡ 0
shl_low w y k i low lt =
    mod_bit w (y * 2 ^ k) i lt ∙ ap (λ x. bit_at x i) (add_none (y * 2 ^ k)) ∙ bit_at_cat_low y k 0 i low ∙ bit_at-zero i

pub no_bit : (i : ℕ) → ¬ HasBit 0 i
no_bit i has = let e : ◌≡◌ {A = ℕ} 0 1 = sym (bit_at-zero i) ∙ has in absurd (omega arith)

shift_below : (b k : ℕ) → b * 2 ^ k % 2 ^ 32 < 2 ^ 32
shift_below b k = omega arith

-- what bit a shifted bit was
pub shifted_from : (k b i : ℕ) → HasBit (b * 2 ^ k % 2 ^ 32) i → (c : ℕ) × HasBit b c × (i ≡ k + c)
shifted_from k b i has = elim (dec_lt i 32) [
  | yes in_row ↦ elim (dec_lt i k) [
    | yes low ↦ absurd (let e : ◌≡◌ {A = ℕ} 0 1 = sym (shl_low 32 b k i low in_row) ∙ has in omega arith)
    | no high ↦
        let is : i ≡ k + (i - k) = omega arith in
        (i - k, sym (shl_high 32 b k (i - k) i is in_row) ∙ has, is)
  ]
  | no out ↦ absurd (let e : ◌≡◌ {A = ℕ} 0 1 = sym (bit_at_above (b * 2 ^ k % 2 ^ 32) 32 i (shift_below b k) (omega arith)) ∙ has in omega arith)
]

pub shifted_to : (k b c i : ℕ) → HasBit b c → i ≡ k + c → i < 32 → HasBit (b * 2 ^ k % 2 ^ 32) i
shifted_to k b c i has is lt = shl_high 32 b k c i is lt ∙ has

max_left : (a b : ℕ) → a ≡ 1 → b < 2 → max a b ≡ 1
max_left a b one lt = omega arith

max_right : (a b : ℕ) → b ≡ 1 → a < 2 → max a b ≡ 1
max_right a b one lt = omega arith

max_other : (a b : ℕ) → max a b ≡ 1 → a < 2 → a ≢ 1 → b ≡ 1
max_other a b one lt other = omega (arith, other)

pub or_from : (a b i : ℕ) → HasBit (bit_or a b) i → HasBit a i ⊎ HasBit b i
or_from a b i has = elim (ℕ_discrete (bit_at a i) 1) [
  | yes one ↦ inl one
  | no other ↦ inr (max_other (bit_at a i) (bit_at b i) (sym (bit_at_or a b i) ∙ has) (bit_at-lt a i) other)
]

pub or_left : (a b i : ℕ) → HasBit a i → HasBit (bit_or a b) i
or_left a b i has = bit_at_or a b i ∙ max_left (bit_at a i) (bit_at b i) has (bit_at-lt b i)

pub or_right : (a b i : ℕ) → HasBit b i → HasBit (bit_or a b) i
or_right a b i has = bit_at_or a b i ∙ max_right (bit_at a i) (bit_at b i) has (bit_at-lt a i)

-- Rows

-- bit i of row n is one of the others, shifted
abbrev pub IsJoined : List ℕ → ℕ → ℕ → ℕ → ℕ → Type 0
IsJoined others first k n i = (j : ℕ) × (c : ℕ) × HasBitAt others j c × (n ≡ first + j) × (i ≡ k + c)

next_joined : (o : ℕ) (os : List ℕ) (k m i : ℕ) → IsJoined os 0 k m i → IsJoined (o ∷ os) 0 k (suc m) i
next_joined o os k m i (j, c, has, at_row, at_column) = (suc j, c, has, omega arith, at_column)

later_joined : (os : List ℕ) (first k m i : ℕ) → IsJoined os first k m i → IsJoined os (suc first) k (suc m) i
later_joined os first k m i (j, c, has, at_row, at_column) = (j, c, has, omega arith, at_column)

-- the bits of joined rows
pub joined_bits_from : (k first : ℕ) (rows others : List ℕ) (n i : ℕ) → HasBitAt (joined_from (or_shifted k) first rows others) n i → HasBitAt rows n i ⊎ IsJoined others first k n i
joined_bits_from k zero rows [] n i has = inl has
joined_bits_from k zero [] (o ∷ os) n i has = inl has
joined_bits_from k zero (r ∷ rs) (o ∷ os) zero i has = elim (or_from r (o * 2 ^ k % 2 ^ 32) i has) [
  | inl was ↦ inl was
  | inr new ↦ let s = shifted_from k o i new in inr (0, s.0, s.1, refl, s.2)
]
joined_bits_from k zero (r ∷ rs) (o ∷ os) (suc m) i has = elim (joined_bits_from k zero rs os m i has) [
  | inl was ↦ inl was
  | inr new ↦ inr (next_joined o os k m i new)
]
joined_bits_from k (suc first) [] others n i has = inl has
joined_bits_from k (suc first) (r ∷ rs) others zero i has = inl has
joined_bits_from k (suc first) (r ∷ rs) others (suc m) i has = elim (joined_bits_from k first rs others m i has) [
  | inl was ↦ inl was
  | inr new ↦ inr (later_joined others first k m i new)
]

pub joined_bits_old : (k first : ℕ) (rows others : List ℕ) (n i : ℕ) → first + length others ≤ length rows → HasBitAt rows n i → HasBitAt (joined_from (or_shifted k) first rows others) n i
joined_bits_old k zero rows [] n i fits has = has
joined_bits_old k zero [] (o ∷ os) n i fits has = absurd (omega arith)
joined_bits_old k zero (r ∷ rs) (o ∷ os) zero i fits has = or_left r (o * 2 ^ k % 2 ^ 32) i has
joined_bits_old k zero (r ∷ rs) (o ∷ os) (suc m) i fits has = joined_bits_old k zero rs os m i (omega arith) has
joined_bits_old k (suc first) [] others n i fits has = absurd (omega arith)
joined_bits_old k (suc first) (r ∷ rs) others zero i fits has = has
joined_bits_old k (suc first) (r ∷ rs) others (suc m) i fits has = joined_bits_old k first rs others m i (omega arith) has

pub joined_bits_new : (k first : ℕ) (rows others : List ℕ) (n i j c : ℕ) → first + length others ≤ length rows → HasBitAt others j c → n ≡ first + j → i ≡ k + c → i < 32 → HasBitAt (joined_from (or_shifted k) first rows others) n i
joined_bits_new k zero rows [] n i j c fits has at_row at_column lt = absurd (no_bit c has)
joined_bits_new k zero [] (o ∷ os) n i j c fits has at_row at_column lt = absurd (omega arith)
joined_bits_new k zero (r ∷ rs) (o ∷ os) zero i zero c fits has at_row at_column lt =
    or_right r (o * 2 ^ k % 2 ^ 32) i (shifted_to k o c i has at_column lt)
joined_bits_new k zero (r ∷ rs) (o ∷ os) zero i (suc j) c fits has at_row at_column lt = absurd (omega arith)
joined_bits_new k zero (r ∷ rs) (o ∷ os) (suc m) i zero c fits has at_row at_column lt = absurd (omega arith)
joined_bits_new k zero (r ∷ rs) (o ∷ os) (suc m) i (suc j) c fits has at_row at_column lt =
    joined_bits_new k zero rs os m i j c (omega arith) has (omega arith) at_column lt
joined_bits_new k (suc first) [] others n i j c fits has at_row at_column lt = absurd (omega arith)
joined_bits_new k (suc first) (r ∷ rs) others zero i j c fits has at_row at_column lt = absurd (omega arith)
joined_bits_new k (suc first) (r ∷ rs) others (suc m) i j c fits has at_row at_column lt =
    joined_bits_new k first rs others m i j c (omega arith) has (omega arith) at_column lt

-- One bit more

one_bit_from : (column i : ℕ) → column < 32 → HasBit (1 * 2 ^ column % 2 ^ 32) i → i ≡ column
one_bit_from column i lt has =
    let s = shifted_from column 1 i has in
    elim (ℕ_discrete s.0 0) [
      | yes none ↦ omega (arith, s.2)
      | no other ↦ absurd (let e : ◌≡◌ {A = ℕ} 0 1 = sym (bit_at-pow_other 0 s.0 other) ∙ s.1 in omega arith)
    ]

pub set_bit_sets : (rows : List ℕ) (row column d : ℕ) → column < 32 → row < length rows → SetsBit rows (slice_set rows row (bit_or (slice_index_or rows row d) (1 * 2 ^ column % 2 ^ 32))) row column
set_bit_sets [] row column d lt inside n i = absurd (omega arith)
set_bit_sets (r ∷ rs) zero column d lt inside zero i = (
  λ has. elim (or_from r (1 * 2 ^ column % 2 ^ 32) i has) [ inl was ↦ inl was | inr new ↦ inr (refl, one_bit_from column i lt new) ],
  λ h. elim h [
    | inl was ↦ or_left r (1 * 2 ^ column % 2 ^ 32) i was
    | inr new ↦ or_right r (1 * 2 ^ column % 2 ^ 32) i (shifted_to column 1 0 i (bit_at-pow_same 0) (omega (arith, new.1)) (omega (arith, new.1)))
  ],
)
set_bit_sets (r ∷ rs) zero column d lt inside (suc m) i = (λ has. inl has, λ h. elim h [ inl was ↦ was | inr new ↦ absurd (let e = new.0 in omega arith) ])
set_bit_sets (r ∷ rs) (suc row) column d lt inside zero i = (λ has. inl has, λ h. elim h [ inl was ↦ was | inr new ↦ absurd (let e = new.0 in omega arith) ])
set_bit_sets (r ∷ rs) (suc row) column d lt inside (suc m) i =
    let later = set_bit_sets rs row column d lt (omega arith) m i in (
      λ has. elim (later.0 has) [ inl was ↦ inl was | inr new ↦ inr (ap (λ x. suc x) new.0, new.1) ],
      λ h. elim h [ inl was ↦ later.1 (inl was) | inr new ↦ later.1 (inr (let e = new.0 in omega arith, new.1)) ],
    )

-- Clear rows

pub clear_of_zero : (row : ℕ) → row ≡ 0 → (k : ℕ) → ¬ HasBit row k
clear_of_zero row is k has = no_bit k (subst (λ (x : ℕ). HasBit x k) is has)

bit_none : (b : ℕ) → b < 2 → b ≢ 1 → b ≡ 0
bit_none b lt other = omega (arith, other)

pub zero_of_clear : (row : ℕ) → ((k : ℕ) → ¬ HasBit row k) → row ≡ 0
zero_of_clear row none = same_from_bits row 0 (λ k. bit_none (bit_at row k) (bit_at-lt row k) (none k) ∙ sym (bit_at-zero k))

-- the bits of a row shifted down are those from k on
pub shr_bit : (row k i : ℕ) → bit_at (row / 2 ^ k) i ≡ bit_at row (k + i)
shr_bit row k i = ap (λ x. x % 2) (shr-shr row k i)

-- a row has no bit after its width
pub wide_row : (row i : ℕ) → row < 2 ^ 32 → 32 ≤ i → ¬ HasBit row i
wide_row row i small after has = let e : ◌≡◌ {A = ℕ} 0 1 = sym (bit_at_above row 32 i small after) ∙ has in absurd (omega arith)

-- where m is the column, or the nearest one of the row
pub clear_from_shifted : (row m : ℕ) (column : ℤ) (r : Bool) → pos m ≡ int_max column (pos 0) → IsTrue r ↔ ((k : ℕ) → ¬ HasBit (row / 2 ^ m) k) → IsTrue r ↔ ((k : ℕ) → column ≤ℤ pos k → ¬ HasBit row k)
clear_from_shifted row m column r is told = (
  λ set k le has.
      let at_k : m + (k - m) ≡ k = omega (arith, ints, clamps) in
      told.0 set (k - m) (shr_bit row m (k - m) ∙ ap (bit_at row) at_k ∙ has),
  λ none. told.1 (λ k has. none (m + k) (omega (arith, ints, clamps)) (sym (shr_bit row m k) ∙ has)),
)

pub clear_before_shifted : (row m : ℕ) (column : ℤ) (r : Bool) → row < 2 ^ 32 → pos m ≡ int_min column (pos 32) → 0 < m → IsTrue r ↔ ((k : ℕ) → ¬ HasBit (row * 2 ^ (32 - m) % 2 ^ 32) k) → IsTrue r ↔ ((k : ℕ) → (pos k +ℤ pos 1) ≤ℤ column → ¬ HasBit row k)
clear_before_shifted row m column r small is some told = (
  λ set k le has. elim (dec_lt k 32) [
    | yes in_row ↦ told.0 set ((32 - m) + k) (shifted_to (32 - m) row k ((32 - m) + k) has refl (omega (arith, ints, clamps)))
    | no out ↦ wide_row row k small (omega arith) has
  ],
  λ none. told.1 (λ i has. elim (dec_lt i 32) [
    | yes in_row ↦
        let was = shifted_from (32 - m) row i has in
        none was.0 (omega (arith, ints, clamps, was.2)) was.1
    | no out ↦ wide_row (row * 2 ^ (32 - m) % 2 ^ 32) i (shift_below row (32 - m)) (omega arith) has
  ]),
)

-- an empty row joined in changes nothing
pub or_nothing : (k x y : ℕ) → y ≡ 0 → x ≡ or_shifted k x y
or_nothing k x y none = same_from_bits x (or_shifted k x y) (λ i. sym (bit_at_or x (y * 2 ^ k % 2 ^ 32) i ∙ max_none (bit_at x i) (bit_at (y * 2 ^ k % 2 ^ 32) i) (ap (λ b. bit_at b i) (shift_none k y none) ∙ bit_at-zero i)))
  where
    max_none : (a b : ℕ) → b ≡ 0 → max a b ≡ a
    max_none a b is = omega arith

    shift_none : (k y : ℕ) → y ≡ 0 → y * 2 ^ k % 2 ^ 32 ≡ 0
    shift_none k y is = rw is (omega arith)

pub both_nothing : (j k x y : ℕ) → y ≡ 0 → x ≡ or_both j k x y
both_nothing j k x y none = or_nothing j x y none ∙ or_nothing k (or_shifted j x y) y none

-- a row joined in once more, shifted alike, changes nothing
pub or_again : (j k x y : ℕ) → k ≡ j → or_both j k x y ≡ or_shifted j x y
or_again j k x y same = same_from_bits (or_both j k x y) (or_shifted j x y) (λ i. bit_at_or (or_shifted j x y) (shift k) i ∙ again (bit_at (or_shifted j x y) i) (bit_at x i) (bit_at (shift j) i) (bit_at (shift k) i) (bit_at_or x (shift j) i) (ap (λ (m : ℕ). bit_at (shift m) i) same))
  where
    shift : ℕ → ℕ
    shift m = y * 2 ^ m % 2 ^ 32

    again : (r a b c : ℕ) → r ≡ max a b → c ≡ b → max r c ≡ r
    again r a b c is also = omega arith
