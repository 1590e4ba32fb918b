-- The set of a word, number by number.
use Rattle.std.proofs.Common.{◌≡◌, ℕ, suc, ◌+◌, ◌*◌, ◌%◌, ◌^◌, ◌<◌, ◌≤◌, List, [], ◌∷◌, Bool, true, false, not, IsTrue, refl, sym, ap, subst, ◌∙◌, arith, leb-true, ltb-true, one-mul, zero-mul, mod-eq_of_lt}
use Rattle.std.specs.Prelude.{bit_or, ◌&&◌, nat_le, nat_lt, codes, if◌then◌else◌}
use Rattle.std.specs.List.{list_all}
use Rattle.std.specs.Str.{bytes_eq}
use Rattle.std.specs.Str.Parse.{starts_with_minus}
use Rattle.std.proofs.lemmas.Bool.{and_parts}
use Rattle.std.proofs.lemmas.Nat.{or_disjoint, or_lt, pow_pos, pow_below}
use Rattle.std.proofs.lemmas.Nat.Bits.{and_pow, bit_at_above}
use Rattle.burr_plantext.specs.Rules.Written.{is_number, is_set, pieces, is_below, natural_in, set_of, set_in, set_numbers, are_members}
use Rattle.burr_asm.specs.Views.Sets.{is_member}

-- One bit more

-- a bit above all others is added
pub bit_added : (set least piece : ℕ) → set < 2 ^ least → least ≤ piece → bit_or set (2 ^ piece) ≡ set + 2 ^ piece
bit_added set least piece few low = or_disjoint set (2 ^ piece) (and_pow set piece ∙ ap (λ (b : ℕ). b * 2 ^ piece) (bit_at_above set least piece few low) ∙ zero-mul (2 ^ piece))

pub bit_few : (set least piece : ℕ) → set < 2 ^ least → least ≤ piece → bit_or set (2 ^ piece) < 2 ^ suc piece
bit_few set least piece few low = or_lt (suc piece) set (2 ^ piece) (wider (suc piece) (omega arith)) (pow_below piece (suc piece) (omega arith))
  where
    wider : (k : ℕ) → least < k → set < 2 ^ k
    wider k h = let more = pow_below least k h in omega (arith, few, more)

-- where a walk over the numbers of a word is: all of them are members, and the set is this, if the
-- rest are members from the least on
pub record IsSetWalk (bound : ℕ) (word : List ℕ) (set least : ℕ) (rest : List ℕ) : Type 0 where
  pub listed : set_numbers word ≡ pieces 44 word
  pub numbers : list_all is_number (pieces 44 rest) ≡ true
  pub few : set < 2 ^ least
  pub test : are_members 0 bound (pieces 44 word) ≡ are_members least bound (pieces 44 rest)
  pub value : set_of (pieces 44 word) ≡ set + set_of (pieces 44 rest)

pub set_begins : (bound : ℕ) (word dash : List ℕ) → IsTrue (is_set word) → dash ≡ codes "-" → false ≡ bytes_eq word dash → IsSetWalk bound word 0 0 word
set_begins bound word dash h is_dash e =
    let listed : set_numbers word ≡ pieces 44 word = ap (λ (t : Bool). if t then [] else pieces 44 word) (ap (bytes_eq word) (sym is_dash) ∙ sym e) in
    record { listed = listed; numbers = ap (list_all is_number) (sym listed) ∙ h; few = pow_pos 0; test = refl; value = omega arith }

-- the word of no pieces
pub no_pieces : (bound : ℕ) (word dash : List ℕ) → dash ≡ codes "-" → true ≡ bytes_eq word dash → (are_members 0 bound (set_numbers word) ≡ true) × (0 ≡ set_in word)
no_pieces bound word dash is_dash e =
    let none : set_numbers word ≡ [] = ap (λ (t : Bool). if t then [] else pieces 44 word) (ap (bytes_eq word) (sym is_dash) ∙ sym e) in
    (ap (are_members 0 bound) none, sym (ap set_of none))

-- a member is below 32
pub member_few : (least bound piece : ℕ) (number front : List ℕ) → number ≡ front → is_member least bound number ≡ true → piece ≡ natural_in number → bound ≤ 32 → piece < 32
member_few least bound piece number front same is value low =
    let tests = and_parts (is_below bound number) (nat_le least (natural_in number)) is in
    let below = and_parts (not (starts_with_minus number)) (nat_lt (natural_in number) bound) tests.0 in
    omega (arith, value, ltb-true (natural_in number) bound below.1, low)

-- and is this set with one piece more, which is above all others
pub next_set : (set least piece : ℕ) → set < 2 ^ least → least ≤ piece → piece < 32 → bit_or set (1 * 2 ^ piece % 4294967296) ≡ set + 2 ^ piece
next_set set least piece few low high =
    let fits = pow_below piece 32 high in
    let same : 1 * 2 ^ piece % 4294967296 ≡ 2 ^ piece = ap (λ (n : ℕ). n % 4294967296) (one-mul (2 ^ piece)) ∙ mod-eq_of_lt fits in
    ap (bit_or set) same ∙ bit_added set least piece few low

module _ (bound : ℕ) (word : List ℕ) (set least : ℕ) (rest : List ℕ) (walk : IsSetWalk bound word set least rest)
    (front : List ℕ) (more : List (List ℕ)) (parts : pieces 44 rest ≡ front ∷ more) where
  -- the next of the pieces is a number
  pub number_first : is_number front ≡ true
  number_first = (and_parts (is_number front) (list_all is_number more) (ap (λ (ps : List (List ℕ)). list_all is_number ps) (sym parts) ∙ walk.numbers)).0

  -- where it is no member, the word writes no set
  pub no_member : (number : List ℕ) → number ≡ front → is_member least bound number ≡ false → are_members 0 bound (set_numbers word) ≡ false
  no_member number same fails =
      ap (are_members 0 bound) walk.listed ∙ walk.test ∙ ap (are_members least bound) parts
      ∙ ap (λ (t : Bool). t && are_members (suc (natural_in front)) bound more) (ap (is_member least bound) (sym same) ∙ fails)

  module _ (number : List ℕ) (piece : ℕ) (same : number ≡ front) (is : is_member least bound number ≡ true) (value : piece ≡ natural_in number) (low : bound ≤ 32) where
    piece_is : piece ≡ natural_in front
    piece_is = value ∙ ap natural_in same

    is_test : is_member least bound front ≡ true
    is_test = ap (is_member least bound) (sym same) ∙ is

    within : (least ≤ piece) × (piece < 32)
    within =
        let tests = and_parts (is_below bound front) (nat_le least (natural_in front)) is_test in
        let below = and_parts (not (starts_with_minus front)) (nat_lt (natural_in front) bound) tests.0 in
        let at_least = leb-true least (natural_in front) tests.1 in
        let few = ltb-true (natural_in front) bound below.1 in
        (omega (arith, piece_is, at_least), omega (arith, piece_is, few, low))

    -- the set with this piece
    pub set_next : bit_or set (1 * 2 ^ piece % 4294967296) ≡ set + 2 ^ piece
    set_next = next_set set least piece walk.few within.0 within.1

    test_next : are_members 0 bound (pieces 44 word) ≡ are_members (suc piece) bound more
    test_next =
        walk.test ∙ ap (are_members least bound) parts ∙ ap (λ (t : Bool). t && are_members (suc (natural_in front)) bound more) is_test
        ∙ ap (λ (n : ℕ). are_members (suc n) bound more) (sym piece_is)

    value_next : set_of (pieces 44 word) ≡ (set + 2 ^ piece) + set_of more
    value_next =
        walk.value ∙ ap (λ (ps : List (List ℕ)). set + set_of ps) parts ∙ ap (λ (n : ℕ). set + (2 ^ n + set_of more)) (sym piece_is) ∙ omega arith

    -- a number more
    pub set_goes_on : (next : List ℕ) → more ≡ pieces 44 next → IsSetWalk bound word (bit_or set (1 * 2 ^ piece % 4294967296)) (piece + 1) next
    set_goes_on next e =
        let up : suc piece ≡ piece + 1 = omega arith in
        record {
          listed = walk.listed;
          numbers = ap (λ (ps : List (List ℕ)). list_all is_number ps) (sym e)
              ∙ (and_parts (is_number front) (list_all is_number more) (ap (λ (ps : List (List ℕ)). list_all is_number ps) (sym parts) ∙ walk.numbers)).1;
          few = bit_fits;
          test = test_next ∙ (λ i. are_members (up i) bound (e i));
          value = value_next ∙ (λ i. sym set_next i + set_of (e i));
        }
      where
        bit_fits : bit_or set (1 * 2 ^ piece % 4294967296) < 2 ^ (piece + 1)
        bit_fits =
            let few = bit_few set least piece walk.few within.0 in
            let sum = bit_added set least piece walk.few within.0 in
            let up : suc piece ≡ piece + 1 = omega arith in
            subst (λ (n : ℕ). bit_or set (1 * 2 ^ piece % 4294967296) < 2 ^ n) up (omega (arith, few, sum, set_next))

    -- the last number
    pub set_ends : more ≡ [] → (are_members 0 bound (set_numbers word) ≡ true) × (bit_or set (1 * 2 ^ piece % 4294967296) ≡ set_in word)
    set_ends e = (
      ap (are_members 0 bound) walk.listed ∙ test_next ∙ ap (are_members (suc piece) bound) e,
      set_next ∙ sym (ap set_of walk.listed ∙ value_next ∙ ap (λ (ps : List (List ℕ)). (set + 2 ^ piece) + set_of ps) e ∙ omega arith),
    )
