-- How a form is cut into its words, and what the test of forms says of each of them.
use Rattle.std.proofs.Common.{◌≡◌, ◌≢◌, ℕ, suc, ◌+◌, ◌<◌, ◌==◌, List, [], ◌∷◌, ◌++◌, length, take, drop, Bool, true, false, not, IsTrue, Contains, pos, neg_ℤ, ◌⊎◌, inl, inr, refl, sym, ap, subst, ◌∙◌, arith, leb-true, le-leb, ltb-false, eqb-true, eq-eqb, append_assoc, length-append}
use Rattle.std.specs.Prelude.{◌&&◌, ◌||◌, codes, nat_le, nat_lt, slice_index, slice_index_or, Some, None, cond, if◌then◌else◌}
use Rattle.std.specs.List.{list_all, position, position_or_len}
use Rattle.std.specs.Str.{bytes_eq}
use Rattle.std.specs.Str.Parse.{digits_value, starts_with_minus, without_leading_plus}
use Rattle.std.proofs.lemmas.Bool.{and_parts, and_from, true≢false, not-true, eqb-false, false_from_ne_true}
use Rattle.std.proofs.lemmas.List.Sums.{prefix_len-le-length}
use Rattle.std.proofs.lemmas.Option.{none-some}
use Rattle.std.proofs.lemmas.Slice.Eq.{bytes_eq-Decides}
use borrow.Author.Tests.{ne_eqb}
use Rattle.burr_text.specs.Names.{is_digit}
use Rattle.burr_text.specs.Words.{IsCutAt}
use Rattle.burr_text.proofs.Common.Cuts.{Lacks, cut, lacks, contains_cut, same_head, same_tail}
use Rattle.burr_plantext.specs.Rules.Written.{pieces, is_count, is_natural, is_number, number_in, is_sign, form_parts, coefficient_word, slot_word, is_term}
use Rattle.burr_plantext.specs.Rules.Checks.{is_empty}
use Rattle.burr_plantext.proofs.Common.Cuts.{some_pieces}
use Rattle.burr_plantext.proofs.Common.FormCuts.{BeginsTerm, term_cut, constant_cut}
use Rattle.burr_plantext.proofs.Common.Forms.{HasNoSign}
use Rattle.burr_plantext.proofs.Common.ParsedNumbers.{or_left, or_right, or_cases, number_written}
use Rattle.burr_plantext.proofs.Common.Pieces.{one_piece, first_piece, digits_lack, not_both}
use Rattle.burr_asm.specs.Views.Forms.{begins_term, terms_of, IsConstantCut, begins_signed, IsTermCut}

-- Cuts at signs

-- no sign
abbrev pub is_unsigned : ℕ → Bool
is_unsigned b = not (is_sign b)

-- the bytes are cut before the first sign
pub record IsCutAtSign (bytes front rest : List ℕ) : Type 0 where
  pub parts : bytes ≡ front ++ rest
  pub first : IsTrue (list_all is_unsigned front)
  pub begins : IsTrue (begins_term rest)

has_no_sign : (bytes : List ℕ) → IsTrue (list_all is_unsigned bytes) → HasNoSign bytes
has_no_sign [] h = tt
has_no_sign (b ∷ bytes) h = let parts = and_parts (is_unsigned b) (list_all is_unsigned bytes) h in (not-true (is_sign b) parts.0, has_no_sign bytes parts.1)

begins : (bytes : List ℕ) → IsTrue (begins_term bytes) → BeginsTerm bytes
begins [] h = tt
begins (b ∷ bytes) h = h

-- what stands before the first sign, and what stands from it on
pub sign_cut : (bytes : List ℕ) → IsCutAtSign bytes (take (position_or_len is_sign bytes) bytes) (drop (position_or_len is_sign bytes) bytes)
sign_cut [] = record { parts = refl; first = refl; begins = refl }
sign_cut (b ∷ bytes) = by (is_sign b) refl (sign_cut bytes)
  where
    by : (t : Bool) → is_sign b ≡ t → IsCutAtSign bytes (take (position_or_len is_sign bytes) bytes) (drop (position_or_len is_sign bytes) bytes)
        → IsCutAtSign (b ∷ bytes) (take (position_or_len is_sign (b ∷ bytes)) (b ∷ bytes)) (drop (position_or_len is_sign (b ∷ bytes)) (b ∷ bytes))
    by true e h = let at : position_or_len is_sign (b ∷ bytes) ≡ 0 = ap (λ (t : Bool). cond (not t) (1 + position_or_len is_sign bytes) 0) e in
        subst (λ (n : ℕ). IsCutAtSign (b ∷ bytes) (take n (b ∷ bytes)) (drop n (b ∷ bytes))) (sym at) (record { parts = refl; first = refl; begins = e })
    by false e h = let at : position_or_len is_sign (b ∷ bytes) ≡ suc (position_or_len is_sign bytes) = ap (λ (t : Bool). cond (not t) (1 + position_or_len is_sign bytes) 0) e ∙ omega arith in
        subst (λ (n : ℕ). IsCutAtSign (b ∷ bytes) (take n (b ∷ bytes)) (drop n (b ∷ bytes))) (sym at)
        (record { parts = ap (λ (w : List ℕ). b ∷ w) h.parts; first = and_from (is_unsigned b) (list_all is_unsigned (take (position_or_len is_sign bytes) bytes)) (ap not e) h.first; begins = h.begins })

pub sign_cut_by : (bytes front back : List ℕ) (n : ℕ) → n ≡ position_or_len is_sign bytes → front ≡ take n bytes → back ≡ drop n bytes → IsCutAtSign bytes front back
sign_cut_by bytes front back n e is_front is_back =
    let at = sign_cut bytes in
    subst (λ (w : List ℕ). IsCutAtSign bytes w back) (sym is_front)
    (subst (λ (w : List ℕ). IsCutAtSign bytes (take n bytes) w) (sym is_back) (subst (λ (k : ℕ). IsCutAtSign bytes (take k bytes) (drop k bytes)) (sym e) at))

-- there is one such cut
pub one_sign_cut : (a b r s : List ℕ) → HasNoSign a → HasNoSign b → BeginsTerm r → BeginsTerm s → a ++ r ≡ b ++ s → (a ≡ b) × (r ≡ s)
one_sign_cut [] [] r s p q f g e = (refl, e)
one_sign_cut [] (y ∷ b) [] s p q f g e = absurd (let k = ap (λ (w : List ℕ). length w) e in omega (arith, k))
one_sign_cut [] (y ∷ b) (c ∷ r) s p q f g e = absurd (not_both (is_sign c) f (ap is_sign (same_head c y r (b ++ s) e) ∙ q.0))
one_sign_cut (x ∷ a) [] r [] p q f g e = absurd (let k = ap (λ (w : List ℕ). length w) e in omega (arith, k))
one_sign_cut (x ∷ a) [] r (c ∷ s) p q f g e = absurd (not_both (is_sign c) g (ap is_sign (sym (same_head x c (a ++ r) s e)) ∙ p.0))
one_sign_cut (x ∷ a) (y ∷ b) r s p q f g e =
    let head = same_head x y (a ++ r) (b ++ s) e in
    let h = one_sign_cut a b r s p.1 q.1 f g (same_tail x y (a ++ r) (b ++ s) e) in
    (λ i. head i ∷ h.0 i, h.1)

-- where no sign stands, all bytes stand before it
pub no_first_sign : (bytes : List ℕ) → None ≡ position is_sign bytes → length bytes ≡ position_or_len is_sign bytes
no_first_sign bytes e = by (nat_lt (position_or_len is_sign bytes) (length bytes)) refl e
  where
    by : (t : Bool) → nat_lt (position_or_len is_sign bytes) (length bytes) ≡ t → None ≡ cond t (Some (position_or_len is_sign bytes)) None → length bytes ≡ position_or_len is_sign bytes
    by true f e = absurd (none-some (position_or_len is_sign bytes) e)
    by false f e = let few = prefix_len-le-length is_unsigned bytes in let much = ltb-false (position_or_len is_sign bytes) (length bytes) f in omega (arith, few, much)

-- Numbers and their bytes

-- a count is digits
pub count_digits : (w : List ℕ) → IsTrue (is_count w) → IsTrue (list_all is_digit w)
count_digits [] h = refl
count_digits (b ∷ w) h =
    let parts = and_parts (nat_le 49 b && nat_le b 57) (list_all is_digit w) h in
    let range = and_parts (nat_le 49 b) (nat_le b 57) parts.0 in
    let low = leb-true 49 b range.0 in
    and_from (is_digit b) (list_all is_digit w) (and_from (nat_le 48 b) (nat_le b 57) (le-leb 48 b (omega (arith, low))) range.1) parts.1

pub natural_digits : (w : List ℕ) → IsTrue (is_natural w) → IsTrue (list_all is_digit w)
natural_digits w h =
    or_cases (bytes_eq w (codes "0")) (is_count w) (IsTrue (list_all is_digit w))
    (λ e. subst (λ (v : List ℕ). IsTrue (list_all is_digit v)) (sym ((bytes_eq-Decides w (codes "0")).0 e)) refl) (count_digits w) h

-- digits have no sign
digits_no_sign : (w : List ℕ) → IsTrue (list_all is_digit w) → HasNoSign w
digits_no_sign [] h = tt
digits_no_sign (b ∷ w) h =
    let parts = and_parts (is_digit b) (list_all is_digit w) h in
    let low = leb-true 48 b (and_parts (nat_le 48 b) (nat_le b 57) parts.0).0 in
    ((λ i. ne_eqb b 43 (λ e. omega (arith, low, e)) i || (b == 45)) ∙ ne_eqb b 45 (λ e. omega (arith, low, e)), digits_no_sign w parts.1)

no_sign_both : (a b : List ℕ) → HasNoSign a → HasNoSign b → HasNoSign (a ++ b)
no_sign_both [] b p q = q
no_sign_both (x ∷ a) b p q = (p.0, no_sign_both a b p.1 q)

pub count_number : (w : List ℕ) → IsTrue (is_count w) → IsTrue (is_number w)
count_number w h = or_left (is_natural w) (starts_with_minus w && is_count (drop 1 w)) (or_right (bytes_eq w (codes "0")) (is_count w) h)

pub natural_number : (w : List ℕ) → IsTrue (is_natural w) → IsTrue (is_number w)
natural_number w h = or_left (is_natural w) (starts_with_minus w && is_count (drop 1 w)) h

-- a natural number does not begin with a minus
pub natural_no_minus : (w : List ℕ) → IsTrue (is_natural w) → starts_with_minus w ≡ false
natural_no_minus w h = first w (natural_digits w h)
  where
    first : (w : List ℕ) → IsTrue (list_all is_digit w) → starts_with_minus w ≡ false
    first [] k = refl
    first (b ∷ w) k =
        let low = leb-true 48 b (and_parts (nat_le 48 b) (nat_le b 57) (and_parts (is_digit b) (list_all is_digit w) k).0).0 in
        ne_eqb b 45 (λ e. omega (arith, low, e))

-- a number without a sign is a natural number
pub number_natural : (w : List ℕ) → HasNoSign w → IsTrue (is_number w) → IsTrue (is_natural w)
number_natural w h k =
    or_cases (is_natural w) (starts_with_minus w && is_count (drop 1 w)) (IsTrue (is_natural w)) (λ e. e)
    (λ e. absurd (minus w h (and_parts (starts_with_minus w) (is_count (drop 1 w)) e).0)) k
  where
    minus : (w : List ℕ) → HasNoSign w → starts_with_minus w ≡ true → ⊥
    minus [] h e = true≢false (sym e)
    minus (b ∷ w) h e = true≢false (sym (ap is_sign (eqb-true b 45 e)) ∙ h.0)

-- Terms

-- a term before other terms
pub record HasTerm (sign : ℕ) (digits slot rest bytes : List ℕ) : Type 0 where
  pub parts : bytes ≡ sign ∷ (digits ++ (118 ∷ (slot ++ rest)))
  pub is : is_sign sign ≡ true
  pub count : IsTrue (is_count digits)
  pub natural : IsTrue (is_natural slot)
  pub begins : BeginsTerm rest

-- the word of a term
abbrev pub term_of : ℕ → List ℕ → List ℕ → List ℕ
term_of sign digits slot = sign ∷ (digits ++ (118 ∷ slot))

sign_cases : (sign : ℕ) → is_sign sign ≡ true → (sign ≡ 43) ⊎ (sign ≡ 45)
sign_cases sign h = or_cases (sign == 43) (sign == 45) ((sign ≡ 43) ⊎ (sign ≡ 45)) (λ e. inl (eqb-true sign 43 e)) (λ e. inr (eqb-true sign 45 e)) h

pub sign_no_v : (sign : ℕ) → is_sign sign ≡ true → sign ≢ 118
sign_no_v sign h e = true≢false (sym h ∙ ap is_sign e)

module _ (sign : ℕ) (digits slot rest bytes : List ℕ) (h : HasTerm sign digits slot rest bytes) where
  -- such bytes are this term, and the terms after it
  pub term_parts : terms_of bytes ≡ term_of sign digits slot ∷ terms_of rest
  term_parts =
      let body = no_sign_both digits (118 ∷ slot) (digits_no_sign digits (count_digits digits h.count)) (refl, digits_no_sign slot (natural_digits slot h.natural)) in
      let flat : sign ∷ (digits ++ (118 ∷ (slot ++ rest))) ≡ sign ∷ ((digits ++ (118 ∷ slot)) ++ rest) = ap (λ (w : List ℕ). sign ∷ w) (sym (append_assoc digits (118 ∷ slot) rest)) in
      ap terms_of (h.parts ∙ flat) ∙ term_cut sign (digits ++ (118 ∷ slot)) rest h.is body h.begins

  pub term_pieces : pieces 118 (term_of sign digits slot) ≡ (sign ∷ digits) ∷ slot ∷ []
  term_pieces =
      first_piece 118 (sign ∷ digits) slot (sign_no_v sign h.is, digits_lack 118 digits refl (count_digits digits h.count))
      ∙ ap (λ (ps : List (List ℕ)). (sign ∷ digits) ∷ ps) (one_piece 118 slot (digits_lack 118 slot refl (natural_digits slot h.natural)))

  pub term_is : IsTrue (is_term (term_of sign digits slot))
  term_is =
      subst (λ (ps : List (List ℕ)). IsTrue ((length ps == 2) && is_count (drop 1 (slice_index_or ps 0 [])) && is_natural (slice_index_or ps 1 []))) (sym term_pieces)
      (and_from (is_count digits) (is_natural slot) h.count h.natural)

  pub term_coefficient : coefficient_word (term_of sign digits slot) ≡ sign ∷ digits
  term_coefficient = ap (λ (ps : List (List ℕ)). slice_index_or ps 0 []) term_pieces

  pub term_slot : slot_word (term_of sign digits slot) ≡ slot
  term_slot = ap (λ (ps : List (List ℕ)). slice_index_or ps 1 []) term_pieces

-- a byte that is lacked, or where it stands first
find_byte : (c : ℕ) (w : List ℕ) → Lacks c w ⊎ ((a : List ℕ) × (b : List ℕ) × (w ≡ a ++ (c ∷ b)) × Lacks c a)
find_byte c [] = inl tt
find_byte c (x ∷ w) = by (x == c) refl (find_byte c w)
  where
    by : (t : Bool) → (x == c) ≡ t → Lacks c w ⊎ ((a : List ℕ) × (b : List ℕ) × (w ≡ a ++ (c ∷ b)) × Lacks c a) → Lacks c (x ∷ w) ⊎ ((a : List ℕ) × (b : List ℕ) × (x ∷ w ≡ a ++ (c ∷ b)) × Lacks c a)
    by true e k = inr ([], w, ap (λ (y : ℕ). y ∷ w) (eqb-true x c e), tt)
    by false e (inl k) = inl (eqb-false x c e, k)
    by false e (inr k) = inr (x ∷ k.0, k.1, ap (λ (v : List ℕ). x ∷ v) k.2, (eqb-false x c e, k.3))

-- two pieces are cut at the byte
two_pieces : (c : ℕ) (w : List ℕ) → length (pieces c w) ≡ 2 → (a : List ℕ) × (b : List ℕ) × (w ≡ a ++ (c ∷ b)) × (pieces c w ≡ a ∷ b ∷ [])
two_pieces c w two = by (find_byte c w)
  where
    after : (a b : List ℕ) → w ≡ a ++ (c ∷ b) → Lacks c a → Lacks c b ⊎ ((d : List ℕ) × (f : List ℕ) × (b ≡ d ++ (c ∷ f)) × Lacks c d) → (a : List ℕ) × (b : List ℕ) × (w ≡ a ++ (c ∷ b)) × (pieces c w ≡ a ∷ b ∷ [])
    after a b e k (inl l) = (a, b, e, ap (pieces c) e ∙ first_piece c a b k ∙ ap (λ (ps : List (List ℕ)). a ∷ ps) (one_piece c b l))
    after a b e k (inr l) =
        let some = some_pieces c l.1 in
        let three : pieces c w ≡ a ∷ l.0 ∷ some.0 ∷ some.1 = ap (pieces c) e ∙ first_piece c a b k ∙ ap (λ (v : List ℕ). a ∷ pieces c v) l.2 ∙ ap (λ (ps : List (List ℕ)). a ∷ ps) (first_piece c l.0 l.1 l.3 ∙ ap (λ (ps : List (List ℕ)). l.0 ∷ ps) some.2) in
        absurd (let many = ap (λ (ps : List (List ℕ)). length ps) three in omega (arith, two, many))

    by : Lacks c w ⊎ ((a : List ℕ) × (b : List ℕ) × (w ≡ a ++ (c ∷ b)) × Lacks c a) → (a : List ℕ) × (b : List ℕ) × (w ≡ a ++ (c ∷ b)) × (pieces c w ≡ a ∷ b ∷ [])
    by (inl k) = absurd (let one = ap (λ (ps : List (List ℕ)). length ps) (one_piece c w k) in omega (arith, two, one))
    by (inr k) = after k.0 k.1 k.2 k.3 (find_byte c k.1)

-- the parts of what passes the test of a term
pub term_cut_up : (sign : ℕ) (front rest : List ℕ) → is_sign sign ≡ true → BeginsTerm rest → IsTrue (is_term (sign ∷ front)) → (digits : List ℕ) × (slot : List ℕ) × HasTerm sign digits slot rest (sign ∷ (front ++ rest))
term_cut_up sign front rest is more h =
    let tests = and_parts ((length (pieces 118 (sign ∷ front)) == 2) && is_count (drop 1 (coefficient_word (sign ∷ front)))) (is_natural (slot_word (sign ∷ front))) h in
    let first = and_parts (length (pieces 118 (sign ∷ front)) == 2) (is_count (drop 1 (coefficient_word (sign ∷ front)))) tests.0 in
    let two = two_pieces 118 (sign ∷ front) (eqb-true (length (pieces 118 (sign ∷ front))) 2 first.0) in
    by two.0 two.1 two.2 two.3 first.1 tests.1
  where
    by : (a b : List ℕ) → sign ∷ front ≡ a ++ (118 ∷ b) → pieces 118 (sign ∷ front) ≡ a ∷ b ∷ [] → IsTrue (is_count (drop 1 (coefficient_word (sign ∷ front)))) → IsTrue (is_natural (slot_word (sign ∷ front)))
        → (digits : List ℕ) × (slot : List ℕ) × HasTerm sign digits slot rest (sign ∷ (front ++ rest))
    by [] b e ps count natural = absurd (sign_no_v sign is (same_head sign 118 front b e))
    by (x ∷ a) b e ps count natural = (
      a,
      b,
      record {
        parts = ap (λ (w : List ℕ). sign ∷ (w ++ rest)) (same_tail sign x front (a ++ (118 ∷ b)) e) ∙ ap (λ (w : List ℕ). sign ∷ w) (append_assoc a (118 ∷ b) rest);
        is = is;
        count = subst (λ (qs : List (List ℕ)). IsTrue (is_count (drop 1 (slice_index_or qs 0 [])))) ps count;
        natural = subst (λ (qs : List (List ℕ)). IsTrue (is_natural (slice_index_or qs 1 []))) ps natural;
        begins = more;
      },
    )

-- bytes that begin with a sign and are no term are none at all
pub term_found : (b : ℕ) (bytes : List ℕ) → is_sign b ≡ true → IsTrue (list_all is_term (terms_of (b ∷ bytes))) → (digits : List ℕ) × (slot : List ℕ) × (rest : List ℕ) × HasTerm b digits slot rest (b ∷ bytes)
term_found b bytes is h =
    let k = sign_cut bytes in
    let front = take (position_or_len is_sign bytes) bytes in
    let rest = drop (position_or_len is_sign bytes) bytes in
    let more = begins rest k.begins in
    let parts : terms_of (b ∷ bytes) ≡ (b ∷ front) ∷ terms_of rest = ap (λ (w : List ℕ). terms_of (b ∷ w)) k.parts ∙ term_cut b front rest is (has_no_sign front k.first) more in
    let tests = and_parts (is_term (b ∷ front)) (list_all is_term (terms_of rest)) (subst (λ (ts : List (List ℕ)). IsTrue (list_all is_term ts)) parts h) in
    let found = term_cut_up b front rest is more tests.0 in
    (found.0, found.1, rest, subst (HasTerm b found.0 found.1 rest) (ap (λ (w : List ℕ). b ∷ w) (sym k.parts)) found.2)

pub no_term : (bytes : List ℕ) → IsTrue (begins_term bytes) → ((sign : ℕ) (digits slot rest : List ℕ) → HasTerm sign digits slot rest bytes → ⊥) → list_all is_term (terms_of bytes) ≡ is_empty bytes
no_term [] h none = refl
no_term (b ∷ bytes) h none = false_from_ne_true (list_all is_term (terms_of (b ∷ bytes))) (λ e. let k = term_found b bytes h e in none b k.0 k.1 k.2 k.3)

-- A term as the code reads it

-- a coefficient without a `+`
abbrev pub plain_coefficient : ℕ → List ℕ → List ℕ
plain_coefficient sign digits = if sign == 43 then digits else sign ∷ digits

module _ (sign : ℕ) (digits slot rest bytes : List ℕ) (h : HasTerm sign digits slot rest bytes) where
  pub term_unplussed : without_leading_plus bytes ≡ plain_coefficient sign digits ++ (118 ∷ (slot ++ rest))
  term_unplussed = ap without_leading_plus h.parts ∙ grind arith

  pub plain_lacks : Lacks 118 (plain_coefficient sign digits)
  plain_lacks = by (sign == 43)
    where
      low : Lacks 118 digits
      low = digits_lack 118 digits refl (count_digits digits h.count)

      by : (t : Bool) → Lacks 118 (if t then digits else sign ∷ digits)
      by true = low
      by false = (sign_no_v sign h.is, low)

  pub plain_number : IsTrue (is_number (plain_coefficient sign digits))
  plain_number = by (sign_cases sign h.is)
    where
      by : (sign ≡ 43) ⊎ (sign ≡ 45) → IsTrue (is_number (plain_coefficient sign digits))
      by (inl e) = subst (λ (s : ℕ). IsTrue (is_number (plain_coefficient s digits))) (sym e) (count_number digits h.count)
      by (inr e) = subst (λ (s : ℕ). IsTrue (is_number (plain_coefficient s digits))) (sym e) (or_right (is_natural (45 ∷ digits)) (is_count digits) h.count)

  pub signed_begins : begins_signed bytes ≡ true
  signed_begins = ap begins_signed h.parts ∙ by (sign_cases sign h.is)
    where
      digit : (w v : List ℕ) → IsTrue (is_count w) → (nat_le 49 (slice_index (w ++ v) 0) && nat_le (slice_index (w ++ v) 0) 57) ≡ true
      digit [] v k = absurd (true≢false (sym k))
      digit (d ∷ w) v k = (and_parts (nat_le 49 d && nat_le d 57) (list_all is_digit w) k).0

      by : (sign ≡ 43) ⊎ (sign ≡ 45) → begins_signed (sign ∷ (digits ++ (118 ∷ (slot ++ rest)))) ≡ true
      by (inl e) = subst (λ (s : ℕ). begins_signed (s ∷ (digits ++ (118 ∷ (slot ++ rest)))) ≡ true) (sym e) (digit digits (118 ∷ (slot ++ rest)) h.count)
      by (inr e) = subst (λ (s : ℕ). begins_signed (s ∷ (digits ++ (118 ∷ (slot ++ rest)))) ≡ true) (sym e) refl

  -- where the code cuts it
  pub term_cut_at : (number front after : List ℕ) → number ≡ without_leading_plus bytes → IsCutAt 118 number front after → (front ≡ plain_coefficient sign digits) × (after ≡ slot ++ rest)
  term_cut_at number front after e k =
      cut 118 front (plain_coefficient sign digits) after (slot ++ rest) (lacks 118 front k.first) plain_lacks (sym k.parts ∙ e ∙ term_unplussed)

  pub slot_cut_at : (after front more : List ℕ) → after ≡ slot ++ rest → IsCutAtSign after front more → (front ≡ slot) × (more ≡ rest)
  slot_cut_at after front more e k =
      one_sign_cut front slot more rest (has_no_sign front k.first) (digits_no_sign slot (natural_digits slot h.natural)) (begins more k.begins) h.begins (sym k.parts ∙ e)

module _ (bytes : List ℕ) (h : IsTrue (begins_term bytes)) where
  -- no signed number begins
  pub term_unsigned : begins_signed bytes ≡ false → list_all is_term (terms_of bytes) ≡ is_empty bytes
  term_unsigned e = no_term bytes h (λ sign digits slot rest k. true≢false (sym (signed_begins sign digits slot rest bytes k) ∙ e))

  -- no `v` follows
  pub term_without_v : (number : List ℕ) → number ≡ without_leading_plus bytes → ¬ Contains number 118 → list_all is_term (terms_of bytes) ≡ is_empty bytes
  term_without_v number e none =
      no_term bytes h (λ sign digits slot rest k. none (subst (λ (w : List ℕ). Contains w 118) (sym (e ∙ term_unplussed sign digits slot rest bytes k)) (contains_cut 118 (plain_coefficient sign digits) (slot ++ rest))))

  module _ (number front after : List ℕ) (e : number ≡ without_leading_plus bytes) (cut_v : IsCutAt 118 number front after) where
    -- what stands before the `v` is no number
    pub term_without_number : is_number front ≡ false → list_all is_term (terms_of bytes) ≡ is_empty bytes
    term_without_number fails =
        no_term bytes h
        (λ sign digits slot rest k.
        true≢false (sym (plain_number sign digits slot rest bytes k) ∙ ap is_number (sym (term_cut_at sign digits slot rest bytes k number front after e cut_v).0) ∙ fails))

    -- or what stands after it
    pub term_without_slot : (word more : List ℕ) → IsCutAtSign after word more → is_number word ≡ false → list_all is_term (terms_of bytes) ≡ is_empty bytes
    term_without_slot word more cut_sign fails =
        no_term bytes h
        (λ sign digits slot rest k.
        let at = slot_cut_at sign digits slot rest bytes k after word more (term_cut_at sign digits slot rest bytes k number front after e cut_v).1 cut_sign in
        true≢false (sym (natural_number slot k.natural) ∙ ap is_number (sym at.0) ∙ fails))

-- A sign, and a number without a `+` that is cut at `v` and at the next sign, are a term

-- a number after a plus is the number
number_plus : (w : List ℕ) → IsTrue (is_count w) → number_in w ≡ number_in (43 ∷ w)
number_plus w h =
    let k = (number_written w (count_number w h)).2 in
    let none = natural_no_minus w (or_right (bytes_eq w (codes "0")) (is_count w) h) in
    ap (λ (t : Bool). let rest : List ℕ = cond t (drop 1 w) (without_leading_plus w) in cond t (neg_ℤ (pos (digits_value 10 rest))) (pos (digits_value 10 rest))) none
    ∙ ap (λ (v : List ℕ). pos (digits_value 10 v)) k.plus

-- a number that begins with a digit other than 0
count_of_digit : (w : List ℕ) → IsTrue (nat_le 49 (slice_index w 0)) → IsTrue (is_number w) → IsTrue (is_count w)
count_of_digit w low h =
    or_cases (is_natural w) (starts_with_minus w && is_count (drop 1 w)) (IsTrue (is_count w))
    (λ e. or_cases (bytes_eq w (codes "0")) (is_count w) (IsTrue (is_count w)) (λ f. absurd (true≢false (sym low ∙ ap (λ (v : List ℕ). nat_le 49 (slice_index v 0)) ((bytes_eq-Decides w (codes "0")).0 f)))) (λ f. f) e)
    (λ e.
    let minus = eqb-true (slice_index w 0) 45 (and_parts (starts_with_minus w) (is_count (drop 1 w)) e).0 in
    absurd (true≢false (sym low ∙ ap (nat_le 49) minus))) h

-- and one that begins with a minus
count_of_minus : (w : List ℕ) → IsTrue (is_number (45 ∷ w)) → IsTrue (is_count w)
count_of_minus w h = h

-- what has been read
pub record IsRead (bytes coefficient slot rest : List ℕ) : Type 0 where
  pub sign : ℕ
  pub digits : List ℕ
  pub term : HasTerm sign digits slot rest bytes
  pub value : number_in coefficient ≡ number_in (sign ∷ digits)

module _ (coefficient after slot rest : List ℕ) (number : IsTrue (is_number coefficient)) (cut_sign : IsCutAtSign after slot rest) (slots : IsTrue (is_number slot)) where
  unsigned_slot : IsTrue (is_natural slot)
  unsigned_slot = number_natural slot (has_no_sign slot cut_sign.first) slots

  after_plus : (bytes : List ℕ) → IsTrue (nat_le 49 (slice_index bytes 0)) → bytes ≡ coefficient ++ (118 ∷ after) → IsRead (43 ∷ bytes) coefficient slot rest
  after_plus bytes low parts =
      let count = count_of_digit coefficient (first coefficient (subst (λ (w : List ℕ). IsTrue (nat_le 49 (slice_index w 0))) parts low) number) number in
      record {
        sign = 43;
        digits = coefficient;
        term = record {
          parts = ap (λ (w : List ℕ). 43 ∷ w) (parts ∙ ap (λ (w : List ℕ). coefficient ++ (118 ∷ w)) cut_sign.parts);
          is = refl;
          count = count;
          natural = unsigned_slot;
          begins = begins rest cut_sign.begins;
        };
        value = number_plus coefficient count;
      }
    where
      first : (w : List ℕ) → IsTrue (nat_le 49 (slice_index (w ++ (118 ∷ after)) 0)) → IsTrue (is_number w) → IsTrue (nat_le 49 (slice_index w 0))
      first [] h k = absurd (true≢false (sym k))
      first (c ∷ w) h k = h

  after_minus : (bytes w : List ℕ) → coefficient ≡ w → 45 ∷ bytes ≡ w ++ (118 ∷ after) → IsRead (45 ∷ bytes) coefficient slot rest
  after_minus bytes [] e parts = absurd (true≢false (ap (λ (n : ℕ). n == 45) (same_head 45 118 bytes after parts)))
  after_minus bytes (c ∷ w) e parts =
      let head = same_head 45 c bytes (w ++ (118 ∷ after)) parts in
      let same : coefficient ≡ 45 ∷ w = e ∙ ap (λ (b : ℕ). b ∷ w) (sym head) in
      record {
        sign = 45;
        digits = w;
        term = record {
          parts = ap (λ (v : List ℕ). 45 ∷ v) (same_tail 45 c bytes (w ++ (118 ∷ after)) parts ∙ ap (λ (v : List ℕ). w ++ (118 ∷ v)) cut_sign.parts);
          is = refl;
          count = count_of_minus w (subst (λ (v : List ℕ). IsTrue (is_number v)) same number);
          natural = unsigned_slot;
          begins = begins rest cut_sign.begins;
        };
        value = ap number_in same;
      }

  read_term : (bytes : List ℕ) → begins_signed bytes ≡ true → without_leading_plus bytes ≡ coefficient ++ (118 ∷ after) → IsRead bytes coefficient slot rest
  read_term [] h parts = absurd (true≢false (sym h))
  read_term (b ∷ bytes) h parts =
      or_cases (b == 45) ((b == 43) && nat_le 49 (slice_index bytes 0) && nat_le (slice_index bytes 0) 57) (IsRead (b ∷ bytes) coefficient slot rest)
      (λ e.
      let is = eqb-true b 45 e in
      subst (λ (s : ℕ). IsRead (s ∷ bytes) coefficient slot rest) (sym is)
      (after_minus bytes coefficient refl (ap (λ (s : ℕ). without_leading_plus (s ∷ bytes)) (sym is) ∙ parts)))
      (λ e.
      let tests = and_parts ((b == 43) && nat_le 49 (slice_index bytes 0)) (nat_le (slice_index bytes 0) 57) e in
      let first = and_parts (b == 43) (nat_le 49 (slice_index bytes 0)) tests.0 in
      let is = eqb-true b 43 first.0 in
      subst (λ (s : ℕ). IsRead (s ∷ bytes) coefficient slot rest) (sym is)
      (after_plus bytes first.1 (ap (λ (s : ℕ). without_leading_plus (s ∷ bytes)) (sym is) ∙ parts))) h

-- the clause of a term that is cut off
pub term_is_cut : (bytes number coefficient after slot rest : List ℕ) → begins_signed bytes ≡ true → number ≡ without_leading_plus bytes → IsCutAt 118 number coefficient after → IsCutAtSign after slot rest
    → (cw sw : List ℕ) → is_number coefficient ≡ true → cw ≡ coefficient → is_number slot ≡ true → sw ≡ slot → IsTermCut bytes cw sw rest
term_is_cut bytes number coefficient after slot rest signed_is e cut_v cut_sign cw sw is same is_slot same_slot =
    let k = read_term coefficient after slot rest is cut_sign is_slot bytes signed_is (sym e ∙ cut_v.parts) in
    record {
      term = term_of k.sign k.digits slot;
      parts = term_parts k.sign k.digits slot rest bytes k.term;
      is = term_is k.sign k.digits slot rest bytes k.term;
      coefs = ap number_in same ∙ k.value ∙ ap number_in (sym (term_coefficient k.sign k.digits slot rest bytes k.term));
      slots = same_slot ∙ sym (term_slot k.sign k.digits slot rest bytes k.term);
      begins = cut_sign.begins;
      shorter = shorter k.sign k.digits k.term;
    }
  where
    shorter : (sign : ℕ) (digits : List ℕ) → HasTerm sign digits slot rest bytes → length rest < length bytes
    shorter sign digits h =
        omega (arith, ap (λ (w : List ℕ). length w) h.parts, length-append digits (118 ∷ (slot ++ rest)), length-append slot rest)

-- Constants

pub constant_is_cut : (b : ℕ) (others front rest : List ℕ) → IsCutAtSign others front rest → (word : List ℕ) → word ≡ b ∷ front → IsConstantCut (b ∷ others) word rest
constant_is_cut b others front rest h word e =
    let parts : form_parts (b ∷ others) ≡ (b ∷ front) ∷ terms_of rest = ap (λ (w : List ℕ). form_parts (b ∷ w)) h.parts ∙ constant_cut b front rest (has_no_sign front h.first) (begins rest h.begins) in
    record {
      constant = e ∙ sym (ap (λ (ps : List (List ℕ)). slice_index_or ps 0 []) parts);
      others = sym (ap (λ (ps : List (List ℕ)). drop 1 ps) parts);
      begins = h.begins;
    }

pub constant_cut_by : (bytes : List ℕ) (b : ℕ) (others front back : List ℕ) (n : ℕ) → bytes ≡ b ∷ others → n ≡ position_or_len is_sign others → front ≡ take (1 + n) bytes → back ≡ drop (1 + n) bytes → IsConstantCut bytes front back
constant_cut_by bytes b others front back n e at is_front is_back =
    let up : 1 + n ≡ suc n = omega arith in
    let cut = sign_cut_by others (take n others) (drop n others) n at refl refl in
    subst (λ (w : List ℕ). IsConstantCut w front back) (sym e)
    (subst (λ (w : List ℕ). IsConstantCut (b ∷ others) front w) (sym (is_back ∙ (λ i. drop (up i) (e i))))
    (constant_is_cut b others (take n others) (drop n others) cut front (is_front ∙ (λ i. take (up i) (e i)))))
