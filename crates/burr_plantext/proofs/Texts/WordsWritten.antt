-- Words as they are listed are visible and of their forms, and lines of such words are read again.
use Rattle.std.proofs.Common.{◌≡◌, ℕ, zero, suc, ◌+◌, ◌^◌, ◌<◌, ◌≤◌, ◌==◌, List, [], ◌∷◌, ◌++◌, length, map, Bool, true, IsTrue, refl, ap, ◌∙◌, arith, le-leb, leb-true, eqb-true, ℤ, pos, negsuc, ◌&&◌, ◌||◌, nat_le, Some, if◌then◌else◌, slice_index}
use Rattle.std.specs.List.{list_all, join_with_byte}
use Rattle.std.specs.Fmt.{decimal, signed_decimal}
use Rattle.std.proofs.lemmas.Bool.{and_from, and_parts, or_left, or_right}
use Rattle.burr_text.specs.Names.{is_letter, is_digit, is_name_byte}
use Rattle.burr_forms.specs.Rules.Forms.{Form}
use Rattle.burr_container.specs.Rules.Fitting.{is_name_text}
use Rattle.burr_plantext.specs.Rules.Operands.{given, one, two, three}
use Rattle.burr_plantext.specs.Rules.Listing.{procedure_name, label_name, members, joined_numbers, set_word, terms_word, form_word}
use Rattle.std.proofs.lemmas.Fmt.{length-decimal-le}
use Rattle.burr_plantext.proofs.Common.Numbers.{IsSmall, decimal_digits}
use Rattle.burr_plantext.proofs.Texts.Sets.{AreSmall, members_small}
use Rattle.burr_plantext.proofs.Common.Forms.{AllSmall, IsSpelled}
use Rattle.burr_plantext.proofs.Texts.Formed.{is_visible}
use Rattle.burr_plantext.proofs.Texts.Tests.{all_both, all_weaker}
use Rattle.burr_plantext.proofs.Common.ParsedNumbers.{or_cases}

-- Dark words

digits_visible : (w : List ℕ) → IsTrue (list_all is_digit w) → IsTrue (is_visible w)
digits_visible = all_weaker is_digit (λ b. nat_le 33 b) (λ b k. le-leb 33 b (let low = leb-true 48 b (and_parts (nat_le 48 b) (nat_le b 57) k).0 in omega arith))

pub visible_decimal : (n : ℕ) → n < 2 ^ 64 → IsTrue (is_visible (decimal n))
visible_decimal n small = digits_visible (decimal n) (decimal_digits n small)

pub visible_signed : (z : ℤ) → IsSmall z → IsTrue (is_visible (signed_decimal z))
visible_signed (pos n) small = visible_decimal n (omega arith)
visible_signed (negsuc n) small = visible_decimal (suc n) (omega arith)

visible_join : (words : List (List ℕ)) → IsTrue (list_all is_visible words) → IsTrue (is_visible (join_with_byte 44 words))
visible_join [] h = refl
visible_join (w ∷ []) h = (and_parts (is_visible w) true h).0
visible_join (w ∷ next ∷ words) h = let parts = and_parts (is_visible w) (list_all is_visible (next ∷ words)) h in all_both (λ b. nat_le 33 b) w (44 ∷ join_with_byte 44 (next ∷ words)) parts.0 (visible_join (next ∷ words) parts.1)

visible_numbers : (ns : List ℕ) → AreSmall ns → IsTrue (list_all is_visible (map decimal ns))
visible_numbers [] h = refl
visible_numbers (n ∷ ns) h = and_from (is_visible (decimal n)) (list_all is_visible (map decimal ns)) (visible_decimal n h.0) (visible_numbers ns h.1)

visible_joined : (ns : List ℕ) → AreSmall ns → IsTrue (is_visible (joined_numbers (map decimal ns)))
visible_joined [] h = refl
visible_joined (n ∷ ns) h = visible_join (map decimal (n ∷ ns)) (visible_numbers (n ∷ ns) h)

pub visible_set : (set : ℕ) → IsTrue (is_visible (set_word set))
visible_set set = visible_joined (members 0 32 set) (members_small 0 32 set (omega arith))

visible_term : (n slot : ℕ) → n < 2 ^ 64 → slot < 2 ^ 64 → IsTrue (is_visible (decimal n ++ (118 ∷ decimal slot)))
visible_term n slot small few = all_both (λ b. nat_le 33 b) (decimal n) (118 ∷ decimal slot) (visible_decimal n small) (visible_decimal slot few)

visible_terms : (slot : ℕ) (coefs : List ℤ) → AllSmall coefs → slot + length coefs < 2 ^ 64 → IsTrue (is_visible (terms_word slot coefs))
visible_terms slot [] small few = refl
visible_terms slot (pos zero ∷ coefs) small few = visible_terms (suc slot) coefs small.1 (omega arith)
visible_terms slot (pos (suc n) ∷ coefs) small few =
    all_both (λ b. nat_le 33 b) (decimal (suc n) ++ (118 ∷ decimal slot)) (terms_word (suc slot) coefs) (visible_term (suc n) slot (let h : suc n < 2 ^ 63 = small.0 in omega arith) (omega arith)) (visible_terms (suc slot) coefs small.1 (omega arith))
visible_terms slot (negsuc n ∷ coefs) small few =
    all_both (λ b. nat_le 33 b) (decimal (suc n) ++ (118 ∷ decimal slot)) (terms_word (suc slot) coefs) (visible_term (suc n) slot (let h : suc n < 2 ^ 63 = small.0 in omega arith) (omega arith)) (visible_terms (suc slot) coefs small.1 (omega arith))

pub visible_form : (f : Form) → IsSpelled f → IsTrue (is_visible (form_word f))
visible_form f h = all_both (λ b. nat_le 33 b) (signed_decimal f.constant) (terms_word 0 f.coefs) (visible_signed f.constant h.constant) (visible_terms 0 f.coefs h.coefs (let k = h.few in omega arith))

-- Names

digits_name : (w : List ℕ) → IsTrue (list_all is_digit w) → IsTrue (list_all is_name_byte w)
digits_name =
    all_weaker is_digit is_name_byte
    (λ b k. or_left (is_letter b || is_digit b || (b == 95)) (b == 45) (or_left (is_letter b || is_digit b) (b == 95) (or_right (is_letter b) (is_digit b) k)))

numbered_name : (letter n : ℕ) → IsTrue (is_letter letter) → n < 10 ^ 8 → IsTrue (is_name_text (letter ∷ decimal n))
numbered_name letter n is few =
    let size = length-decimal-le 8 n (omega arith) few (omega arith) in
    and_from (is_letter letter && list_all is_name_byte (letter ∷ decimal n)) (nat_le (length (letter ∷ decimal n)) 32)
    (and_from (is_letter letter) (list_all is_name_byte (letter ∷ decimal n)) is
    (and_from (is_name_byte letter) (list_all is_name_byte (decimal n)) (or_left (is_letter letter || is_digit letter || (letter == 95)) (letter == 45) (or_left (is_letter letter || is_digit letter) (letter == 95) (or_left (is_letter letter) (is_digit letter) is)))
    (digits_name (decimal n) (decimal_digits n (omega arith)))))
    (le-leb (suc (length (decimal n))) 32 (omega (arith, size)))

pub label_name_is : (n : ℕ) → n < 10 ^ 8 → IsTrue (is_name_text (label_name n))
label_name_is n few = numbered_name 76 n refl few

pub procedure_name_is : (n : ℕ) → n < 10 ^ 8 → IsTrue (is_name_text (procedure_name n))
procedure_name_is n few = numbered_name 112 n refl few

pub visible_label : (n : ℕ) → n < 10 ^ 8 → IsTrue (is_visible (label_name n))
visible_label n few = visible_decimal n (omega arith)

name_byte_visible : (b : ℕ) → IsTrue (is_name_byte b) → 33 ≤ b
name_byte_visible b h =
    or_cases (is_letter b || is_digit b || (b == 95)) (b == 45) (33 ≤ b)
    (or_cases (is_letter b || is_digit b) (b == 95) (33 ≤ b)
    (or_cases (is_letter b) (is_digit b) (33 ≤ b)
    (or_cases (nat_le 65 b && nat_le b 90) (nat_le 97 b && nat_le b 122) (33 ≤ b)
    (λ e. let low = leb-true 65 b (and_parts (nat_le 65 b) (nat_le b 90) e).0 in omega arith)
    (λ e. let low = leb-true 97 b (and_parts (nat_le 97 b) (nat_le b 122) e).0 in omega arith))
    (λ e. let low = leb-true 48 b (and_parts (nat_le 48 b) (nat_le b 57) e).0 in omega arith))
    (λ e. let same = eqb-true b 95 e in omega (arith, same)))
    (λ e. let same = eqb-true b 45 e in omega (arith, same)) h

pub visible_name : (w : List ℕ) → IsTrue (is_name_text w) → IsTrue (is_visible w)
visible_name w h = all_weaker is_name_byte (λ b. nat_le 33 b) (λ b k. le-leb 33 b (name_byte_visible b k)) w (and_parts (is_letter (slice_index w 0)) (list_all is_name_byte w) (and_parts (is_letter (slice_index w 0) && list_all is_name_byte w) (nat_le (length w) 32) h).0).1

-- Operands that are given

pub given_is : {A : Type 0} (t : Bool) (x : A) → IsTrue t → given t x ≡ Some x
given_is t x h = ap (λ (t : Bool). given t x) h

pub one_is : {A : Type 0} (p : List ℕ → Bool) (f : List ℕ → A) (w : List ℕ) → IsTrue (p w) → one p f (w ∷ []) ≡ Some (f w)
one_is p f w h = given_is (p w) (f w) h

pub two_are : {A : Type 0} (p q : List ℕ → Bool) (f : List ℕ → List ℕ → A) (v w : List ℕ) → IsTrue (p v) → IsTrue (q w) → two p q f (v ∷ w ∷ []) ≡ Some (f v w)
two_are p q f v w h k = ap (λ (t : Bool). one q (f v) (if t then w ∷ [] else [])) h ∙ one_is q (f v) w k

pub three_are : {A : Type 0} (p q r : List ℕ → Bool) (f : List ℕ → List ℕ → List ℕ → A) (u v w : List ℕ) → IsTrue (p u) → IsTrue (q v) → IsTrue (r w)
    → three p q r f (u ∷ v ∷ w ∷ []) ≡ Some (f u v w)
three_are p q r f u v w h k l = ap (λ (t : Bool). two q r (f u) (if t then v ∷ w ∷ [] else [])) h ∙ two_are q r (f u) v w k l
