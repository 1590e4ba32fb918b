-- For the code: the tests of names and numbers of burr_text are those of plan texts.
use Rattle.std.proofs.Common.{◌≤◌, ◌≡◌, ℕ, List, [], ◌∷◌, length, drop, Bool, true, false, IsTrue, refl, sym, ap, subst, arith, leb-true, eqb-true, ◌↔◌, inl, inr, le-leb, All}
use Rattle.std.specs.Prelude.{◌&&◌, nat_le, codes, slice_index}
use Rattle.std.specs.List.{list_all}
use Rattle.std.specs.Str.{bytes_eq}
use Rattle.std.specs.Str.Parse.{starts_with_minus}
use Rattle.std.proofs.lemmas.Bool.{and_from, and_parts}
use Rattle.std.proofs.lemmas.Slice.Eq.{bytes_eq-Decides}
use Rattle.std.proofs.lemmas.List.Elements.{All-nil, All-cons, All-head, All-tail}
use Rattle.burr_text.specs.Names.{is_letter, is_digit, is_name_byte, IsName}
use Rattle.burr_text.specs.Numbers.{IsCount, IsNumber}
use Rattle.burr_container.specs.Rules.Fitting.{is_name_text}
use Rattle.burr_plantext.specs.Rules.Written.{is_count, is_natural, is_number}
use Rattle.burr_plantext.proofs.Common.ParsedNumbers.{or_left, or_right, or_cases}

name_first : (w : List ℕ) → IsName w → IsTrue (is_name_text w)
name_first w h =
    and_from (is_letter (slice_index w 0) && list_all is_name_byte w) (nat_le (length w) 32)
    (and_from (is_letter (slice_index w 0)) (list_all is_name_byte w) h.first h.each) (le-leb (length w) 32 h.short)

pub name_test : (w : List ℕ) → IsName w ↔ IsTrue (is_name_text w)
name_test w = (
  name_first w,
  λ h.
      let two = and_parts (is_letter (slice_index w 0) && list_all is_name_byte w) (nat_le (length w) 32) h in
      let one = and_parts (is_letter (slice_index w 0)) (list_all is_name_byte w) two.0 in
      record { first = one.0; each = one.1; short = leb-true (length w) 32 two.1 },
)

abbrev IsDigitByte : ℕ → Type 0
IsDigitByte b = (48 ≤ b) × (b ≤ 57)

digits_test : (w : List ℕ) → All IsDigitByte w → IsTrue (list_all is_digit w)
digits_test [] h = refl
digits_test (b ∷ w) h =
    let d = All-head IsDigitByte b w h in
    and_from (is_digit b) (list_all is_digit w) (and_from (nat_le 48 b) (nat_le b 57) (le-leb 48 b d.0) (le-leb b 57 d.1)) (digits_test w (All-tail IsDigitByte b w h))

digits_all : (w : List ℕ) → IsTrue (list_all is_digit w) → All IsDigitByte w
digits_all [] h = All-nil IsDigitByte
digits_all (b ∷ w) h =
    let parts = and_parts (is_digit b) (list_all is_digit w) h in
    let range = and_parts (nat_le 48 b) (nat_le b 57) parts.0 in
    All-cons IsDigitByte b w (leb-true 48 b range.0, leb-true b 57 range.1) (digits_all w parts.1)

count_to : (w : List ℕ) → IsCount w → IsTrue (is_count w)
count_to [] h = absurd (let low = h.first in omega arith)
count_to (b ∷ w) h =
    let d = All-head IsDigitByte b w h.digits in
    and_from (nat_le 49 b && nat_le b 57) (list_all is_digit w) (and_from (nat_le 49 b) (nat_le b 57) (le-leb 49 b h.first) (le-leb b 57 d.1)) (digits_test w (All-tail IsDigitByte b w h.digits))

count_from : (w : List ℕ) → IsTrue (is_count w) → IsCount w
count_from [] h = grind arith
count_from (b ∷ w) h =
    let parts = and_parts (nat_le 49 b && nat_le b 57) (list_all is_digit w) h in
    let range = and_parts (nat_le 49 b) (nat_le b 57) parts.0 in
    let low = leb-true 49 b range.0 in
    record { first = low; digits = All-cons IsDigitByte b w (omega arith, leb-true b 57 range.1) (digits_all w parts.1) }

number_to : (w : List ℕ) → IsNumber w → IsTrue (is_number w)
number_to w (inl e) = subst (λ (x : List ℕ). IsTrue (is_number x)) (sym e) refl
number_to w (inr (inl h)) = or_left (is_natural w) (starts_with_minus w && is_count (drop 1 w)) (or_right (bytes_eq w (codes "0")) (is_count w) (count_to w h))
number_to w (inr (inr (rest, e, h))) =
    subst (λ (x : List ℕ). IsTrue (is_number x)) (sym e) (or_right (is_natural (45 ∷ rest)) (is_count rest) (count_to rest h))

minus_rest : (w : List ℕ) → starts_with_minus w ≡ true → IsTrue (is_count (drop 1 w)) → IsNumber w
minus_rest [] e h = grind arith
minus_rest (c ∷ w) e h = inr (inr (w, ap (λ (b : ℕ). b ∷ w) (eqb-true c 45 e), count_from w h))

pub number_test : (w : List ℕ) → IsNumber w ↔ IsTrue (is_number w)
number_test w = (
  number_to w,
  λ h.
      or_cases (is_natural w) (starts_with_minus w && is_count (drop 1 w)) (IsNumber w)
      (or_cases (bytes_eq w (codes "0")) (is_count w) (IsNumber w) (λ e. inl ((bytes_eq-Decides w (codes "0")).0 e)) (λ e. inr (inl (count_from w e))))
      (λ e. let parts = and_parts (starts_with_minus w) (is_count (drop 1 w)) e in minus_rest w parts.0 parts.1) h,
)

-- tests of the same fact answer the same
same_test : (a b : Bool) (P : Type 0) → IsTrue a ↔ P → P ↔ IsTrue b → a ≡ b
same_test true b P f g = sym (g.0 (f.0 refl))
same_test false true P f g = f.1 (g.1 refl)
same_test false false P f g = refl

pub number_result : (w : List ℕ) (result : Bool) → IsTrue result ↔ IsNumber w → result ≡ is_number w
number_result w result h = same_test result (is_number w) (IsNumber w) h (number_test w)

pub name_result : (w : List ℕ) (result : Bool) → IsTrue result ↔ IsName w → result ≡ is_name_text w
name_result w result h = same_test result (is_name_text w) (IsName w) h (name_test w)
