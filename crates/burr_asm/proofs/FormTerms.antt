-- What a form's terms stand for, term by term.
use Rattle.std.proofs.Common.{◌≡◌, ℕ, zero, suc, ◌+◌, ◌<◌, ◌≤◌, ◌==◌, List, [], ◌∷◌, length, map, set, get_or, take, drop, ◌-◌, Bool, true, false, not, IsTrue, ℤ, pos, negsuc, neg_ℤ, ◌≤ℤ◌, FitsSigned, w16, w32, refl, sym, ap, subst, ◌∙◌, arith, leb-true, le-leb, eqb-true, eq-eqb, to_z, of_z, to_z-of_z}
use Rattle.std.specs.Prelude.{◌&&◌, nat_le, int_le, slice_index_or, if◌then◌else◌, nat_lt}
use Rattle.std.specs.Bool.{then_some}
use Rattle.std.specs.List.{list_all}
use Rattle.std.specs.Str.Parse.{starts_with_minus}
use Rattle.std.proofs.lemmas.Bool.{and_parts, and_from, true≢false, and_right, ltb-false, ne_eqb}
use Rattle.std.proofs.lemmas.Int.{ints}
use Rattle.std.proofs.lemmas.List.{get_or-set_same, get_or-set_other, get_or_past, length-set, take_rest}
use Rattle.burr_code.specs.declared.limits.TheConstants.{SLOTS}
use Rattle.burr_container.specs.Rules.Fitting.{is_between}
use Rattle.burr_forms.specs.Rules.Forms.{Form}
use Rattle.burr_plantext.specs.Rules.Written.{pieces, is_count, natural_in, number_in, constant_word, term_words, coefficient_word, slot_word, is_natural, is_number, is_term, is_form, is_form_over, are_terms, coefficient_of, slot_numbers, form_in, is_below}
use Rattle.burr_plantext.specs.Rules.Checks.{is_empty}
use Rattle.burr_plantext.proofs.Common.Forms.{le_of_test}
use Rattle.burr_asm.proofs.FormWords.{natural_no_minus}
use Rattle.burr_asm.proofs.Numbers.{found_if}
use Rattle.burr_asm.specs.Views.Forms.{begins_term, terms_of, IsConstantCut, IsConstantEnd, IsTermCut, is_live_slot, IsLiveSlot}

-- Numbers of a width

test_of_le : (a b : ℤ) → a ≤ℤ b → IsTrue (int_le a b)
test_of_le (pos a) (pos b) le = le-leb a b (omega (arith, ints, le))
test_of_le (pos a) (negsuc b) le = absurd (omega (arith, ints, le))
test_of_le (negsuc a) (pos b) le = refl
test_of_le (negsuc a) (negsuc b) le = le-leb b a (omega (arith, ints, le))

between : (low high z : ℤ) → low ≤ℤ z → z ≤ℤ high → is_between low high z ≡ true
between low high z above below = and_from (int_le low z) (int_le z high) (test_of_le low z above) (test_of_le z high below)

between_low : (low high z : ℤ) → is_between low high z ≡ true → (low ≤ℤ z) × (z ≤ℤ high)
between_low low high z h = let parts = and_parts (int_le low z) (int_le z high) h in (le_of_test low z parts.0, le_of_test z high parts.1)

-- numbers of 16 bits
pub of_16_bits : (z : ℤ) → FitsSigned w16 z → is_between (neg_ℤ (pos 32768)) (pos 32767) z ≡ true
of_16_bits (pos n) h = let few = h.sfits in between (neg_ℤ (pos 32768)) (pos 32767) (pos n) (omega (arith, ints)) (omega (arith, ints, few))
of_16_bits (negsuc n) h = let few = h.sfits in between (neg_ℤ (pos 32768)) (pos 32767) (negsuc n) (omega (arith, ints, few)) (omega (arith, ints))

pub not_of_16_bits : (z : ℤ) → ¬ FitsSigned w16 z → is_between (neg_ℤ (pos 32768)) (pos 32767) z ≡ false
not_of_16_bits z h = by (is_between (neg_ℤ (pos 32768)) (pos 32767) z) refl
  where
    fits : (z : ℤ) → is_between (neg_ℤ (pos 32768)) (pos 32767) z ≡ true → FitsSigned w16 z
    fits (pos n) e = let range = between_low (neg_ℤ (pos 32768)) (pos 32767) (pos n) e in record { sfits = omega (arith, ints, range.1) }
    fits (negsuc n) e = let range = between_low (neg_ℤ (pos 32768)) (pos 32767) (negsuc n) e in record { sfits = omega (arith, ints, range.0) }

    by : (t : Bool) → is_between (neg_ℤ (pos 32768)) (pos 32767) z ≡ t → is_between (neg_ℤ (pos 32768)) (pos 32767) z ≡ false
    by true e = absurd (h (fits z e))
    by false e = e

-- numbers of 32 bits
pub of_32_bits : (z : ℤ) → FitsSigned w32 z → is_between (neg_ℤ (pos 2147483648)) (pos 2147483647) z ≡ true
of_32_bits (pos n) h = let few = h.sfits in between (neg_ℤ (pos 2147483648)) (pos 2147483647) (pos n) (omega (arith, ints)) (omega (arith, ints, few))
of_32_bits (negsuc n) h = let few = h.sfits in between (neg_ℤ (pos 2147483648)) (pos 2147483647) (negsuc n) (omega (arith, ints, few)) (omega (arith, ints))

pub not_of_32_bits : (z : ℤ) → ¬ FitsSigned w32 z → is_between (neg_ℤ (pos 2147483648)) (pos 2147483647) z ≡ false
not_of_32_bits z h = by (is_between (neg_ℤ (pos 2147483648)) (pos 2147483647) z) refl
  where
    fits : (z : ℤ) → is_between (neg_ℤ (pos 2147483648)) (pos 2147483647) z ≡ true → FitsSigned w32 z
    fits (pos n) e = let range = between_low (neg_ℤ (pos 2147483648)) (pos 2147483647) (pos n) e in record { sfits = omega (arith, ints, range.1) }
    fits (negsuc n) e = let range = between_low (neg_ℤ (pos 2147483648)) (pos 2147483647) (negsuc n) e in record { sfits = omega (arith, ints, range.0) }

    by : (t : Bool) → is_between (neg_ℤ (pos 2147483648)) (pos 2147483647) z ≡ t → is_between (neg_ℤ (pos 2147483648)) (pos 2147483647) z ≡ false
    by true e = absurd (h (fits z e))
    by false e = e

-- Coefficients

-- the coefficients, where those that the terms give are put in their places
abbrev pub filled : List ℤ → List (List ℕ) → List ℤ
filled coefs [] = coefs
filled coefs (term ∷ terms) = filled (set coefs (natural_in (slot_word term)) (number_in (coefficient_word term))) terms

-- no coefficient yet
abbrev pub zeros : List ℤ
zeros = pos 0 ∷ pos 0 ∷ pos 0 ∷ pos 0 ∷ pos 0 ∷ pos 0 ∷ pos 0 ∷ pos 0 ∷ []

-- the coefficient of a slot, which is this one where no term gives it
abbrev coefficient_or : ℕ → ℤ → List (List ℕ) → ℤ
coefficient_or slot c [] = c
coefficient_or slot c (term ∷ terms) = if natural_in (slot_word term) == slot then number_in (coefficient_word term) else coefficient_or slot c terms

or_zero : (slot : ℕ) (terms : List (List ℕ)) → coefficient_or slot (pos 0) terms ≡ coefficient_of slot terms
or_zero slot [] = refl
or_zero slot (term ∷ terms) = ap (λ (c : ℤ). if natural_in (slot_word term) == slot then number_in (coefficient_word term) else c) (or_zero slot terms)

-- what is known of a term whose test holds
pub record IsTermOver (live : List Bool) (least : ℕ) (term : List ℕ) (terms : List (List ℕ)) : Type 0 where
  pub low : least ≤ natural_in (slot_word term)
  pub live_is : slice_index_or live (natural_in (slot_word term)) false ≡ true
  pub coefs : is_between (neg_ℤ (pos 32768)) (pos 32767) (number_in (coefficient_word term)) ≡ true
  pub others : are_terms live (suc (natural_in (slot_word term))) terms ≡ true

term_over : (live : List Bool) (least : ℕ) (term : List ℕ) (terms : List (List ℕ)) → are_terms live least (term ∷ terms) ≡ true → IsTermOver live least term terms
term_over live least term terms h =
    let slot = natural_in (slot_word term) in
    let c = is_between (neg_ℤ (pos 32768)) (pos 32767) (number_in (coefficient_word term)) in
    let one = and_parts ((nat_le least slot && slice_index_or live slot false) && c) (are_terms live (suc slot) terms) h in
    let two = and_parts (nat_le least slot && slice_index_or live slot false) c one.0 in
    let three = and_parts (nat_le least slot) (slice_index_or live slot false) two.0 in
    record { low = leb-true least slot three.0; live_is = three.1; coefs = two.1; others = one.1 }

-- terms of greater slots
none_below : (live : List Bool) (least slot : ℕ) (c : ℤ) (terms : List (List ℕ)) → are_terms live least terms ≡ true → slot < least → coefficient_or slot c terms ≡ c
none_below live least slot c [] h below = refl
none_below live least slot c (term ∷ terms) h below =
    let k = term_over live least term terms h in
    let low = k.low in
    ap (λ (t : Bool). if t then number_in (coefficient_word term) else coefficient_or slot c terms) (ne_eqb (natural_in (slot_word term)) slot (λ e. omega (arith, e, low, below)))
    ∙ none_below live (suc (natural_in (slot_word term))) slot c terms k.others (omega (arith, low, below))

slot_within : (live : List Bool) (n : ℕ) → slice_index_or live n false ≡ true → n < length live
slot_within [] n h = absurd (true≢false (sym h ∙ get_or_past [] n false (omega arith)))
slot_within (l ∷ live) zero h = omega arith
slot_within (l ∷ live) (suc n) h = let k = slot_within live n h in omega (arith, k)

filled_at : (live : List Bool) (least : ℕ) (terms : List (List ℕ)) (coefs : List ℤ) (slot : ℕ) → length live ≡ 8 → length coefs ≡ 8 → are_terms live least terms ≡ true
    → get_or (filled coefs terms) slot (pos 0) ≡ coefficient_or slot (get_or coefs slot (pos 0)) terms
filled_at live least [] coefs slot eight few h = refl
filled_at live least (term ∷ terms) coefs slot eight few h =
    let k = term_over live least term terms h in
    let within = slot_within live n k.live_is in
    filled_at live (suc n) terms (set coefs n c) slot eight (length-set coefs n c ∙ few) k.others ∙ by (n == slot) refl k.others (omega (arith, within, eight, few))
  where
    n : ℕ
    n = natural_in (slot_word term)

    c : ℤ
    c = number_in (coefficient_word term)

    by : (t : Bool) → (n == slot) ≡ t → are_terms live (suc n) terms ≡ true → n < length coefs → coefficient_or slot (get_or (set coefs n c) slot (pos 0)) terms ≡ (if t then c else coefficient_or slot (get_or coefs slot (pos 0)) terms)
    by true e others small =
        let same = eqb-true n slot e in
        ap (λ (x : ℤ). coefficient_or slot x terms) (ap (λ (m : ℕ). get_or (set coefs n c) m (pos 0)) (sym same) ∙ get_or-set_same coefs n c (pos 0) small)
        ∙ none_below live (suc n) slot c terms others (omega (arith, same))
    by false e others small = ap (λ (x : ℤ). coefficient_or slot x terms) (get_or-set_other coefs n slot c (pos 0) (λ f. true≢false (sym (eq-eqb n slot (sym f)) ∙ e)))

length-filled : (coefs : List ℤ) (terms : List (List ℕ)) → length (filled coefs terms) ≡ length coefs
length-filled coefs [] = refl
length-filled coefs (term ∷ terms) =
    length-filled (set coefs (natural_in (slot_word term)) (number_in (coefficient_word term))) terms
    ∙ length-set coefs (natural_in (slot_word term)) (number_in (coefficient_word term))

-- eight coefficients are those of the eight slots
eight_coefs : (coefs : List ℤ) → length coefs ≡ 8 → coefs ≡ map (λ slot. get_or coefs slot (pos 0)) slot_numbers
eight_coefs (a ∷ b ∷ c ∷ d ∷ e ∷ f ∷ g ∷ h ∷ []) few = refl
eight_coefs _ few = absurd (omega arith)

map_same : (f g : ℕ → ℤ) → ((x : ℕ) → f x ≡ g x) → (xs : List ℕ) → map f xs ≡ map g xs
map_same f g e [] = refl
map_same f g e (x ∷ xs) = λ i. e x i ∷ map_same f g e xs i

zero_at : (slot : ℕ) → get_or zeros slot (pos 0) ≡ pos 0
zero_at (suc (suc (suc (suc (suc (suc (suc (suc n)))))))) = get_or_past zeros (suc (suc (suc (suc (suc (suc (suc (suc n)))))))) (pos 0) (omega arith)
zero_at _ = refl

-- the coefficients of terms whose slots rise
pub filled_form : (live : List Bool) (terms : List (List ℕ)) → length live ≡ 8 → are_terms live 0 terms ≡ true → filled zeros terms ≡ map (λ slot. coefficient_of slot terms) slot_numbers
filled_form live terms eight h =
    eight_coefs (filled zeros terms) (length-filled zeros terms)
    ∙ map_same (λ slot. get_or (filled zeros terms) slot (pos 0)) (λ slot. coefficient_of slot terms)
    (λ slot. filled_at live 0 terms zeros slot eight refl h ∙ ap (λ (c : ℤ). coefficient_or slot c terms) (zero_at slot) ∙ or_zero slot terms) slot_numbers

abbrev pub form_of : ℤ → List ℤ → Form
form_of z coefs = record { constant = z; coefs = coefs }

-- The walk over the terms

-- where a walk over the terms of a word is: all of them are terms over live slots, with these
-- coefficients, if the rest are, from the least slot on
pub record IsFormWalk (live : List Bool) (word : List ℕ) (coefs : List ℤ) (least : ℕ) (rest : List ℕ) : Type 0 where
  pub begins : IsTrue (begins_term rest)
  pub terms : IsTrue (list_all is_term (terms_of rest))
  pub test : are_terms live 0 (term_words word) ≡ are_terms live least (terms_of rest)
  pub value : filled zeros (term_words word) ≡ filled coefs (terms_of rest)

-- Bytes that begin with a constant are a form if the rest, as the code takes it, are terms.
pub form_tested : (word : List ℕ) (end : ℕ) (test : Bool) → is_number (constant_word word) ≡ true → IsConstantEnd word end
    → test ≡ list_all is_term (terms_of (take (length word - end) (drop end word))) → is_form word ≡ test
form_tested word end test constant cut e =
    (λ i. constant i && list_all is_term (sym cut.1.others i))
    ∙ ap (λ (terms : List ℕ). list_all is_term (terms_of terms)) (sym (take_rest word end)) ∙ sym e

-- the word of a form begins with its constant
pub form_begins : (live : List Bool) (word constant terms : List ℕ) → IsTrue (list_all is_term (term_words word)) → IsConstantCut word constant terms → IsFormWalk live word zeros 0 terms
form_begins live word constant terms h cut = record {
  begins = cut.begins;
  terms = subst (λ (ts : List (List ℕ)). IsTrue (list_all is_term ts)) (sym cut.others) h;
  test = ap (are_terms live 0) (sym cut.others);
  value = ap (filled zeros) (sym cut.others);
}

-- where its terms fail, or its constant, it is no form over live slots
pub terms_fail : (live : List Bool) (word : List ℕ) → are_terms live 0 (term_words word) ≡ false → is_form_over live word ≡ false
terms_fail live word fails = and_right (is_between (neg_ℤ (pos 2147483648)) (pos 2147483647) (number_in (constant_word word))) (are_terms live 0 (term_words word)) fails

pub constant_fails : (live : List Bool) (word constant : List ℕ) → constant ≡ constant_word word → ¬ FitsSigned w32 (number_in constant) → is_form_over live word ≡ false
constant_fails live word constant same fails =
    ap (λ (t : Bool). t && are_terms live 0 (term_words word))
    (ap (λ (w : List ℕ). is_between (neg_ℤ (pos 2147483648)) (pos 2147483647) (number_in w)) (sym same) ∙ not_of_32_bits (number_in constant) fails)

module _ (live : List Bool) (word : List ℕ) (coefs : List ℤ) (least : ℕ) (rest : List ℕ) (walk : IsFormWalk live word coefs least rest)
    (coefficient slot more : List ℕ) (cut : IsTermCut rest coefficient slot more) where
  -- the test of the term that is cut off, and of those after it
  test_here : are_terms live 0 (term_words word) ≡ (nat_le least (natural_in slot) && slice_index_or live (natural_in slot) false
      && is_between (neg_ℤ (pos 32768)) (pos 32767) (number_in coefficient) && are_terms live (suc (natural_in slot)) (terms_of more))
  test_here =
      walk.test ∙ ap (are_terms live least) cut.parts
      ∙ (λ i. nat_le least (natural_in (sym cut.slots i)) && slice_index_or live (natural_in (sym cut.slots i)) false
      && is_between (neg_ℤ (pos 32768)) (pos 32767) (sym cut.coefs i) && are_terms live (suc (natural_in (sym cut.slots i))) (terms_of more))

  natural_slot : starts_with_minus slot ≡ false
  natural_slot =
      ap starts_with_minus cut.slots
      ∙ natural_no_minus (slot_word cut.term)
      (and_parts ((length (pieces 118 cut.term) == 2) && is_count (drop 1 (coefficient_word cut.term))) (is_natural (slot_word cut.term)) cut.is).1

  -- the test of the slot
  slot_test : is_live_slot live least slot ≡ (nat_le least (natural_in slot) && slice_index_or live (natural_in slot) false)
  slot_test = ap (λ (t : Bool). not t && nat_le least (natural_in slot) && slice_index_or live (natural_in slot) false) natural_slot

  pub slot_fails : is_live_slot live least slot ≡ false → is_form_over live word ≡ false
  slot_fails fails =
      terms_fail live word
      (test_here
      ∙ ap (λ (t : Bool). t && is_between (neg_ℤ (pos 32768)) (pos 32767) (number_in coefficient) && are_terms live (suc (natural_in slot)) (terms_of more)) (sym slot_test ∙ fails))

  pub coefficient_fails : ¬ FitsSigned w16 (number_in coefficient) → is_form_over live word ≡ false
  coefficient_fails fails =
      terms_fail live word
      (test_here
      ∙ ap (λ (t : Bool). nat_le least (natural_in slot) && slice_index_or live (natural_in slot) false && t && are_terms live (suc (natural_in slot)) (terms_of more)) (not_of_16_bits (number_in coefficient) fails)
      ∙ ap (λ (t : Bool). t && are_terms live (suc (natural_in slot)) (terms_of more)) (and_right (nat_le least (natural_in slot) && slice_index_or live (natural_in slot) false) false refl))

  -- a term more
  pub form_goes_on : (n : ℕ) (c : ℤ) → is_live_slot live least slot ≡ true → n ≡ natural_in slot → FitsSigned w16 (number_in coefficient) → c ≡ number_in coefficient
      → IsFormWalk live word (set coefs n (to_z w16 (of_z w16 c))) (n + 1) more
  form_goes_on n c is at fits value =
      let up : suc (natural_in slot) ≡ n + 1 = omega (arith, at) in
      let same : to_z w16 (of_z w16 c) ≡ number_in coefficient = to_z-of_z (subst (FitsSigned w16) (sym value) fits) ∙ value in
      record {
        begins = cut.begins;
        terms = (and_parts (is_term cut.term) (list_all is_term (terms_of more)) (subst (λ (ts : List (List ℕ)). IsTrue (list_all is_term ts)) cut.parts walk.terms)).1;
        test = test_here
            ∙ (λ i. (sym slot_test ∙ is) i && of_16_bits (number_in coefficient) fits i && are_terms live (up i) (terms_of more));
        value = walk.value ∙ ap (filled coefs) cut.parts
            ∙ (λ i. filled (set coefs ((ap natural_in (sym cut.slots) ∙ sym at) i) ((sym cut.coefs ∙ sym same) i)) (terms_of more));
      }

module _ (live : List Bool) (word : List ℕ) (coefs : List ℤ) (least : ℕ) (rest : List ℕ) (walk : IsFormWalk live word coefs least rest) (none : list_all is_term (terms_of rest) ≡ is_empty rest) where
  no_rest : terms_of rest ≡ []
  no_rest = by rest (sym none ∙ walk.terms)
    where
      by : (w : List ℕ) → is_empty w ≡ true → terms_of w ≡ []
      by [] e = refl
      by (b ∷ w) e = absurd (true≢false (sym e))

  terms_pass : are_terms live 0 (term_words word) ≡ true
  terms_pass = walk.test ∙ ap (are_terms live least) no_rest

  -- all terms, and the constant
  pub form_ends : length live ≡ 8 → (constant : List ℕ) (z : ℤ) → constant ≡ constant_word word → FitsSigned w32 (number_in constant) → z ≡ number_in constant
      → (is_form_over live word ≡ true) × (form_of (to_z w32 (of_z w32 z)) coefs ≡ form_in word)
  form_ends eight constant z same fits value =
      let written : to_z w32 (of_z w32 z) ≡ number_in (constant_word word) = to_z-of_z (subst (FitsSigned w32) (sym value) fits) ∙ value ∙ ap number_in same in
      let all : coefs ≡ map (λ slot. coefficient_of slot (term_words word)) slot_numbers = sym (walk.value ∙ ap (filled coefs) no_rest) ∙ filled_form live (term_words word) eight terms_pass in (
        and_from (is_between (neg_ℤ (pos 2147483648)) (pos 2147483647) (number_in (constant_word word))) (are_terms live 0 (term_words word))
            (ap (λ (w : List ℕ). is_between (neg_ℤ (pos 2147483648)) (pos 2147483647) (number_in w)) (sym same) ∙ of_32_bits (number_in constant) fits) terms_pass,
        λ i. form_of (written i) (all i),
      )

-- a word of no slot's number writes that of no live one
pub no_live_slot : (live : List Bool) (least : ℕ) (word : List ℕ) → length live ≡ 8 → is_below SLOTS word ≡ false → is_live_slot live least word ≡ false
no_live_slot live least word long e = by (not (starts_with_minus word)) e
  where
    by : (t : Bool) → (t && nat_lt (natural_in word) SLOTS) ≡ false → (t && nat_le least (natural_in word) && slice_index_or live (natural_in word) false) ≡ false
    by false e = refl
    by true e =
        let many = ltb-false (natural_in word) SLOTS e in
        and_right (nat_le least (natural_in word)) (slice_index_or live (natural_in word) false) (get_or_past live (natural_in word) false (omega (arith, many, long)))

-- a slot's number that was read is tested
pub found_live_slot : (live : List Bool) (least n : ℕ) (word : List ℕ) (test : Bool) → is_below SLOTS word ≡ true → n ≡ natural_in word → test ≡ (nat_le least n && slice_index_or live n false) → IsLiveSlot live least word (then_some test n)
found_live_slot live least n word test below is e =
    found_if test (is_live_slot live least word) n (λ m. m ≡ natural_in word) ((λ i. natural i && nat_le least (sym is i) && slice_index_or live (sym is i) false) ∙ sym e) is
  where
    natural : not (starts_with_minus word) ≡ true
    natural = (and_parts (not (starts_with_minus word)) (nat_lt (natural_in word) SLOTS) below).0
