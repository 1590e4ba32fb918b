-- Forms as they are listed are read back.
use Rattle.std.proofs.Common.{◌≡◌, ◌≢◌, ℕ, zero, suc, ◌+◌, ◌^◌, ◌<◌, ◌≤◌, ◌==◌, List, [], ◌∷◌, ◌++◌, length, map, drop, Bool, true, false, IsTrue, ℤ, pos, negsuc, neg_ℤ, ◌≤ℤ◌, refl, sym, ap, subst, ◌∙◌, arith, le-leb, eqb-true, leb-true, append_assoc, append-nil, length-append}
use Rattle.std.specs.Prelude.{◌&&◌, ◌||◌, nat_le, int_le, if◌then◌else◌, slice_index_or}
use Rattle.std.specs.List.{list_all}
use Rattle.std.specs.Fmt.{decimal, signed_decimal}
use Rattle.std.proofs.lemmas.Bool.{and_from, and_parts}
use Rattle.std.proofs.lemmas.Int.{ints}
use Rattle.std.proofs.lemmas.Fmt.{decimal_nonempty}
use borrow.Author.Tests.{ne_eqb}
use Rattle.burr_text.specs.Names.{is_digit}
use Rattle.burr_forms.specs.Rules.Forms.{Form}
use Rattle.burr_plantext.specs.Rules.Written.{pieces, in_first, is_sign, signed, signed_parts, form_parts, constant_word, term_words, coefficient_word, slot_word, is_count, is_natural, is_number, natural_in, number_in, is_term, is_form, are_terms, is_form_over, coefficient_of, slot_numbers, form_in}
use Rattle.burr_container.specs.Rules.Fitting as fitting
use Rattle.burr_container.specs.Rules.Fitting.{is_between, is_coefficient, are_coefficients}
use Rattle.burr_plantext.specs.Rules.Listing.{term_word, terms_word, form_word}
use Rattle.burr_plantext.proofs.Common.Numbers.{natural_back, natural_decimal, number_signed, number_back, plus_back, count_decimal, decimal_digits, IsSmall}
use Rattle.burr_plantext.proofs.Common.Pieces.{one_piece, first_piece, decimal_lacks}

-- Parts

-- no byte is a sign
abbrev pub HasNoSign : List ℕ → Type 0
HasNoSign [] = Unit {0}
HasNoSign (b ∷ bytes) = (is_sign b ≡ false) × HasNoSign bytes

-- bytes in front of the first part
abbrev pub in_front : List ℕ → List (List ℕ) → List (List ℕ)
in_front [] parts = parts
in_front (b ∷ bytes) parts = in_first b (in_front bytes parts)

in_front_of : (a p : List ℕ) (more : List (List ℕ)) → in_front a (p ∷ more) ≡ (a ++ p) ∷ more
in_front_of [] p more = refl
in_front_of (b ∷ a) p more = ap (λ (s : List (List ℕ)). in_first b s) (in_front_of a p more)

unsigned_front : (a rest : List ℕ) → HasNoSign a → signed_parts (a ++ rest) ≡ in_front a (signed_parts rest)
unsigned_front [] rest h = refl
unsigned_front (b ∷ a) rest h =
    ap (λ (t : Bool). signed t b (signed_parts (a ++ rest))) h.0 ∙ ap (λ (s : List (List ℕ)). in_first b s) (unsigned_front a rest h.1)

-- the words of terms
abbrev pub term_list : ℕ → List ℤ → List (List ℕ)
term_list slot [] = []
term_list slot (pos zero ∷ coefs) = term_list (suc slot) coefs
term_list slot (pos (suc n) ∷ coefs) = term_word slot (pos (suc n)) ∷ term_list (suc slot) coefs
term_list slot (negsuc n ∷ coefs) = term_word slot (negsuc n) ∷ term_list (suc slot) coefs

-- a digit is no sign
digit_no_sign : (b : ℕ) → IsTrue (is_digit b) → is_sign b ≡ false
digit_no_sign b h =
    let range = and_parts (nat_le 48 b) (nat_le b 57) h in
    let low : 48 ≤ b = leb-true 48 b range.0 in
    (λ i. ne_eqb b 43 (λ e. omega (arith, low, e)) i || (b == 45)) ∙ ne_eqb b 45 (λ e. omega (arith, low, e))

digits_no_sign : (w : List ℕ) → IsTrue (list_all is_digit w) → HasNoSign w
digits_no_sign [] h = tt
digits_no_sign (b ∷ w) h = let parts = and_parts (is_digit b) (list_all is_digit w) h in (digit_no_sign b parts.0, digits_no_sign w parts.1)

no_sign_both : (a b : List ℕ) → HasNoSign a → HasNoSign b → HasNoSign (a ++ b)
no_sign_both [] b p q = q
no_sign_both (x ∷ a) b p q = (p.0, no_sign_both a b p.1 q)

decimal_no_sign : (n : ℕ) → n < 2 ^ 64 → HasNoSign (decimal n)
decimal_no_sign n small = digits_no_sign (decimal n) (decimal_digits n small)

-- a term after its sign
body_no_sign : (n slot : ℕ) → n < 2 ^ 64 → slot < 2 ^ 64 → HasNoSign (decimal n ++ (118 ∷ decimal slot))
body_no_sign n slot small few = no_sign_both (decimal n) (118 ∷ decimal slot) (decimal_no_sign n small) (refl, decimal_no_sign slot few)

-- a sign and a term in front of terms
pub signed_front : (sign : ℕ) (body rest : List ℕ) (more : List (List ℕ)) → is_sign sign ≡ true → HasNoSign body → signed_parts rest ≡ [] ∷ more
    → signed_parts (sign ∷ (body ++ rest)) ≡ [] ∷ (sign ∷ body) ∷ more
signed_front sign body rest more is unsigned e =
    ap (λ (t : Bool). signed t sign (signed_parts (body ++ rest))) is
    ∙ ap (λ (s : List (List ℕ)). [] ∷ in_first sign s) (unsigned_front body rest unsigned ∙ ap (in_front body) e ∙ in_front_of body [] more)
    ∙ ap (λ (s : List ℕ). [] ∷ (sign ∷ s) ∷ more) (append-nil body)

-- all are small
abbrev pub AllSmall : List ℤ → Type 0
AllSmall [] = Unit {0}
AllSmall (c ∷ coefs) = IsSmall c × AllSmall coefs

terms_parts : (slot : ℕ) (coefs : List ℤ) → AllSmall coefs → slot + length coefs < 2 ^ 64 → signed_parts (terms_word slot coefs) ≡ [] ∷ term_list slot coefs
terms_parts slot [] small few = refl
terms_parts slot (pos zero ∷ coefs) small few = terms_parts (suc slot) coefs small.1 (omega arith)
terms_parts slot (pos (suc n) ∷ coefs) small few =
    signed_front 43 (decimal (suc n) ++ (118 ∷ decimal slot)) (terms_word (suc slot) coefs) (term_list (suc slot) coefs) refl
    (body_no_sign (suc n) slot (let h : suc n < 2 ^ 63 = small.0 in omega arith) (omega arith)) (terms_parts (suc slot) coefs small.1 (omega arith))
terms_parts slot (negsuc n ∷ coefs) small few =
    signed_front 45 (decimal (suc n) ++ (118 ∷ decimal slot)) (terms_word (suc slot) coefs) (term_list (suc slot) coefs) refl
    (body_no_sign (suc n) slot (let h : suc n < 2 ^ 63 = small.0 in omega arith) (omega arith)) (terms_parts (suc slot) coefs small.1 (omega arith))

pub first_front : (b : ℕ) (a rest : List ℕ) (more : List (List ℕ)) → HasNoSign a → signed_parts rest ≡ [] ∷ more → form_parts (b ∷ (a ++ rest)) ≡ (b ∷ a) ∷ more
first_front b a rest more unsigned e =
    ap (λ (s : List (List ℕ)). in_first b s) (unsigned_front a rest unsigned ∙ ap (in_front a) e ∙ in_front_of a [] more)
    ∙ ap (λ (s : List ℕ). (b ∷ s) ∷ more) (append-nil a)

-- a word of digits in front of terms
digits_front : (w rest : List ℕ) (more : List (List ℕ)) → IsTrue (list_all is_digit w) → 0 < length w → signed_parts rest ≡ [] ∷ more → form_parts (w ++ rest) ≡ w ∷ more
digits_front [] rest more digits some e = absurd (omega arith)
digits_front (b ∷ a) rest more digits some e = first_front b a rest more (digits_no_sign a (and_parts (is_digit b) (list_all is_digit a) digits).1) e

constant_front : (z : ℤ) (rest : List ℕ) (more : List (List ℕ)) → IsSmall z → signed_parts rest ≡ [] ∷ more → form_parts (signed_decimal z ++ rest) ≡ signed_decimal z ∷ more
constant_front (pos n) rest more small e = digits_front (decimal n) rest more (decimal_digits n (omega arith)) (decimal_nonempty n (omega arith)) e
constant_front (negsuc n) rest more small e = first_front 45 (decimal (suc n)) rest more (decimal_no_sign (suc n) (omega arith)) e

-- numbers of a form that is spelled
pub record IsSpelled (f : Form) : Type 0 where
  pub constant : IsSmall f.constant
  pub coefs : AllSmall f.coefs
  pub few : length f.coefs ≡ 8

pub parts_of_form : (f : Form) → IsSpelled f → form_parts (form_word f) ≡ signed_decimal f.constant ∷ term_list 0 f.coefs
parts_of_form f h = constant_front f.constant (terms_word 0 f.coefs) (term_list 0 f.coefs) h.constant (terms_parts 0 f.coefs h.coefs (let few = h.few in omega arith))

-- Terms

-- the pieces of a sign, digits and a slot
pieces_of_term : (sign : ℕ) (n slot : ℕ) → sign ≢ 118 → n < 2 ^ 64 → slot < 2 ^ 64 → pieces 118 (sign ∷ (decimal n ++ (118 ∷ decimal slot))) ≡ (sign ∷ decimal n) ∷ decimal slot ∷ []
pieces_of_term sign n slot other small few =
    first_piece 118 (sign ∷ decimal n) (decimal slot) (other, decimal_lacks 118 n refl small)
    ∙ ap (λ (s : List (List ℕ)). (sign ∷ decimal n) ∷ s) (one_piece 118 (decimal slot) (decimal_lacks 118 slot refl few))

-- a term of this slot with this coefficient
pub record IsTermOf (slot : ℕ) (c : ℤ) (word : List ℕ) : Type 0 where
  pub is : IsTrue (is_term word)
  pub slots : natural_in (slot_word word) ≡ slot
  pub coefs : number_in (coefficient_word word) ≡ c

term_by : (slot : ℕ) (c : ℤ) (word w : List ℕ) → pieces 118 word ≡ w ∷ decimal slot ∷ [] → slot < 2 ^ 64 → IsTrue (is_count (drop 1 w)) → number_in w ≡ c → IsTermOf slot c word
term_by slot c word w e few count number = record {
  is = subst (λ (ps : List (List ℕ)). IsTrue ((length ps == 2) && is_count (drop 1 (slice_index_or ps 0 [])) && is_natural (slice_index_or ps 1 []))) (sym e)
      (and_from (is_count (drop 1 w)) (is_natural (decimal slot)) count (natural_decimal slot few));
  slots = ap (λ (ps : List (List ℕ)). natural_in (slice_index_or ps 1 [])) e ∙ natural_back slot few;
  coefs = ap (λ (ps : List (List ℕ)). number_in (slice_index_or ps 0 [])) e ∙ number;
}

plus_term : (slot n : ℕ) → suc n < 2 ^ 63 → slot < 2 ^ 64 → IsTermOf slot (pos (suc n)) (term_word slot (pos (suc n)))
plus_term slot n small few =
    term_by slot (pos (suc n)) (term_word slot (pos (suc n))) (43 ∷ decimal (suc n)) (pieces_of_term 43 (suc n) slot (λ e. omega arith) (omega arith) few) few
    (count_decimal (suc n) (omega arith) (omega arith)) (plus_back (suc n) (omega arith))

minus_term : (slot n : ℕ) → suc n < 2 ^ 63 → slot < 2 ^ 64 → IsTermOf slot (negsuc n) (term_word slot (negsuc n))
minus_term slot n small few =
    term_by slot (negsuc n) (term_word slot (negsuc n)) (45 ∷ decimal (suc n)) (pieces_of_term 45 (suc n) slot (λ e. omega arith) (omega arith) few) few
    (count_decimal (suc n) (omega arith) (omega arith)) (number_back (negsuc n) small)

terms_pass : (slot : ℕ) (coefs : List ℤ) → AllSmall coefs → slot + length coefs < 2 ^ 64 → IsTrue (list_all is_term (term_list slot coefs))
terms_pass slot [] small few = refl
terms_pass slot (pos zero ∷ coefs) small few = terms_pass (suc slot) coefs small.1 (omega arith)
terms_pass slot (pos (suc n) ∷ coefs) small few =
    and_from (is_term (term_word slot (pos (suc n)))) (list_all is_term (term_list (suc slot) coefs)) (plus_term slot n small.0 (omega arith)).is (terms_pass (suc slot) coefs small.1 (omega arith))
terms_pass slot (negsuc n ∷ coefs) small few =
    and_from (is_term (term_word slot (negsuc n))) (list_all is_term (term_list (suc slot) coefs)) (minus_term slot n small.0 (omega arith)).is (terms_pass (suc slot) coefs small.1 (omega arith))

pub form_word_is : (f : Form) → IsSpelled f → IsTrue (is_form (form_word f))
form_word_is f h =
    subst (λ (ps : List (List ℕ)). IsTrue (is_number (slice_index_or ps 0 []) && list_all is_term (drop 1 ps))) (sym (parts_of_form f h))
    (and_from (is_number (signed_decimal f.constant)) (list_all is_term (term_list 0 f.coefs)) (number_signed f.constant h.constant) (terms_pass 0 f.coefs h.coefs (let few = h.few in omega arith)))

-- Coefficients

-- the coefficient of a slot, where the list begins with that of another
abbrev pub coefficient_from : ℕ → List ℤ → ℕ → ℤ
coefficient_from slot [] v = pos 0
coefficient_from slot (c ∷ coefs) v = if slot == v then c else coefficient_from (suc slot) coefs v

-- one slot before the others
below_none : (slot v : ℕ) (coefs : List ℤ) → v < slot → coefficient_from slot coefs v ≡ pos 0
below_none slot v [] below = refl
below_none slot v (c ∷ coefs) below =
    ap (λ (t : Bool). if t then c else coefficient_from (suc slot) coefs v) (ne_eqb slot v (λ e. omega arith)) ∙ below_none (suc slot) v coefs (omega arith)

zero_first : (t : Bool) (slot v : ℕ) (coefs : List ℤ) → (slot == v) ≡ t → coefficient_from (suc slot) coefs v ≡ (if t then pos 0 else coefficient_from (suc slot) coefs v)
zero_first true slot v coefs e = let same : slot ≡ v = eqb-true slot v e in below_none (suc slot) v coefs (omega arith)
zero_first false slot v coefs e = refl

term_first : (slot v : ℕ) (c : ℤ) (word : List ℕ) (words : List (List ℕ)) (coefs : List ℤ) → IsTermOf slot c word → coefficient_of v words ≡ coefficient_from (suc slot) coefs v
    → coefficient_of v (word ∷ words) ≡ coefficient_from slot (c ∷ coefs) v
term_first slot v c word words coefs h e =
    ap (λ (n : ℕ). if n == v then number_in (coefficient_word word) else coefficient_of v words) h.slots
    ∙ (λ i. if slot == v then h.coefs i else e i)

coefficients_back : (slot v : ℕ) (coefs : List ℤ) → AllSmall coefs → slot + length coefs < 2 ^ 64 → coefficient_of v (term_list slot coefs) ≡ coefficient_from slot coefs v
coefficients_back slot v [] small few = refl
coefficients_back slot v (pos zero ∷ coefs) small few = coefficients_back (suc slot) v coefs small.1 (omega arith) ∙ zero_first (slot == v) slot v coefs refl
coefficients_back slot v (pos (suc n) ∷ coefs) small few =
    term_first slot v (pos (suc n)) (term_word slot (pos (suc n))) (term_list (suc slot) coefs) coefs (plus_term slot n small.0 (omega arith)) (coefficients_back (suc slot) v coefs small.1 (omega arith))
coefficients_back slot v (negsuc n ∷ coefs) small few =
    term_first slot v (negsuc n) (term_word slot (negsuc n)) (term_list (suc slot) coefs) coefs (minus_term slot n small.0 (omega arith)) (coefficients_back (suc slot) v coefs small.1 (omega arith))

-- eight coefficients are those of the eight slots
eight : (coefs : List ℤ) → length coefs ≡ 8 → map (coefficient_from 0 coefs) slot_numbers ≡ coefs
eight (a ∷ b ∷ c ∷ d ∷ e ∷ f ∷ g ∷ h ∷ []) few = refl
eight _ few = absurd (omega arith)

map_same : {A : Type 0} (f g : A → ℤ) → ((x : A) → f x ≡ g x) → (xs : List A) → map f xs ≡ map g xs
map_same f g e [] = refl
map_same f g e (x ∷ xs) = λ i. e x i ∷ map_same f g e xs i

pub form_back : (f : Form) → IsSpelled f → form_in (form_word f) ≡ f
form_back f h =
    let few : 0 + length f.coefs < 2 ^ 64 = (let k = h.few in omega arith) in
    let constant : number_in (constant_word (form_word f)) ≡ f.constant = ap (λ (ps : List (List ℕ)). number_in (slice_index_or ps 0 [])) (parts_of_form f h) ∙ number_back f.constant h.constant in
    let terms : term_words (form_word f) ≡ term_list 0 f.coefs = ap (λ (ps : List (List ℕ)). drop 1 ps) (parts_of_form f h) in
    let coefs : map (λ slot. coefficient_of slot (term_words (form_word f))) slot_numbers ≡ f.coefs =
    ap (λ (ts : List (List ℕ)). map (λ slot. coefficient_of slot ts) slot_numbers) terms
    ∙ map_same (λ slot. coefficient_of slot (term_list 0 f.coefs)) (coefficient_from 0 f.coefs) (λ v. coefficients_back 0 v f.coefs h.coefs few) slot_numbers
    ∙ eight f.coefs h.few in
    λ i. record { constant = constant i; coefs = coefs i }

-- Forms over live slots

live_at : (front : List Bool) (l : Bool) (live : List Bool) → slice_index_or (front ++ (l ∷ live)) (length front) false ≡ l
live_at [] l live = refl
live_at (b ∷ front) l live = live_at front l live

length_more : (front : List Bool) (l : Bool) → length (front ++ l ∷ []) ≡ suc (length front)
length_more front l = omega (arith, length-append front (l ∷ []))

dead_zero : (l : Bool) (c : ℤ) → IsTrue (is_coefficient l c) → c ≢ pos 0 → l ≡ true
dead_zero true c h some = refl
dead_zero false (pos zero) h some = absurd (some refl)
dead_zero false (pos (suc n)) h some = grind arith
dead_zero false (negsuc n) h some = grind arith

coefficient_between : (l : Bool) (c : ℤ) → l ≡ true → IsTrue (is_coefficient l c) → IsTrue (is_between (neg_ℤ (pos 32768)) (pos 32767) c)
coefficient_between true c e h = h
coefficient_between false c e h = grind arith

one_term : (front : List Bool) (l : Bool) (live : List Bool) (least : ℕ) (c : ℤ) (word : List ℕ) (words : List (List ℕ)) → IsTermOf (length front) c word → least ≤ length front → l ≡ true
    → IsTrue (is_coefficient l c) → IsTrue (are_terms (front ++ (l ∷ live)) (suc (length front)) words) → IsTrue (are_terms (front ++ (l ∷ live)) least (word ∷ words))
one_term front l live least c word words h low is coefficient more =
    let all = front ++ (l ∷ live) in
    let at : slice_index_or all (natural_in (slot_word word)) false ≡ true = ap (λ (n : ℕ). slice_index_or all n false) h.slots ∙ live_at front l live ∙ is in
    and_from _ (are_terms all (suc (natural_in (slot_word word))) words)
    (and_from _ (is_between (neg_ℤ (pos 32768)) (pos 32767) (number_in (coefficient_word word)))
    (and_from (nat_le least (natural_in (slot_word word))) (slice_index_or all (natural_in (slot_word word)) false)
    (subst (λ (n : ℕ). IsTrue (nat_le least n)) (sym h.slots) (le-leb least (length front) low)) at)
    (subst (λ (z : ℤ). IsTrue (is_between (neg_ℤ (pos 32768)) (pos 32767) z)) (sym h.coefs) (coefficient_between l c is coefficient)))
    (subst (λ (n : ℕ). IsTrue (are_terms all (suc n) words)) (sym h.slots) more)

moved : (front : List Bool) (l : Bool) (live : List Bool) (least : ℕ) (coefs : List ℤ)
    → IsTrue (are_terms ((front ++ l ∷ []) ++ live) least (term_list (length (front ++ l ∷ [])) coefs)) → IsTrue (are_terms (front ++ (l ∷ live)) least (term_list (suc (length front)) coefs))
moved front l live least coefs h =
    subst (λ (n : ℕ). IsTrue (are_terms (front ++ (l ∷ live)) least (term_list n coefs))) (length_more front l)
    (subst (λ (all : List Bool). IsTrue (are_terms all least (term_list (length (front ++ l ∷ [])) coefs))) (append_assoc front (l ∷ []) live) h)

not_zero : (n : ℕ) → pos (suc n) ≢ pos 0
not_zero n e = cc

neg_not_zero : (n : ℕ) → negsuc n ≢ pos 0
neg_not_zero n e = cc

terms_over : (front live : List Bool) (least : ℕ) (coefs : List ℤ) → AllSmall coefs → length front + length coefs < 2 ^ 64 → least ≤ length front
    → IsTrue (are_coefficients live coefs) → IsTrue (are_terms (front ++ live) least (term_list (length front) coefs))
terms_over front live least [] small few low h = refl
terms_over front [] least (c ∷ coefs) small few low h = grind arith
terms_over front (l ∷ live) least (pos zero ∷ coefs) small few low h =
    let parts = and_parts (is_coefficient l (pos zero)) (are_coefficients live coefs) h in
    moved front l live least coefs (terms_over (front ++ l ∷ []) live least coefs small.1 (omega (arith, length_more front l)) (omega (arith, length_more front l)) parts.1)
terms_over front (l ∷ live) least (pos (suc n) ∷ coefs) small few low h =
    let c : ℤ = pos (suc n) in
    let parts = and_parts (is_coefficient l c) (are_coefficients live coefs) h in
    let more = moved front l live (suc (length front)) coefs (terms_over (front ++ l ∷ []) live (suc (length front)) coefs small.1 (omega (arith, length_more front l)) (omega (arith, length_more front l)) parts.1) in
    one_term front l live least c (term_word (length front) c) (term_list (suc (length front)) coefs) (plus_term (length front) n small.0 (omega arith)) low
    (dead_zero l c parts.0 (not_zero n)) parts.0 more
terms_over front (l ∷ live) least (negsuc n ∷ coefs) small few low h =
    let c : ℤ = negsuc n in
    let parts = and_parts (is_coefficient l c) (are_coefficients live coefs) h in
    let more = moved front l live (suc (length front)) coefs (terms_over (front ++ l ∷ []) live (suc (length front)) coefs small.1 (omega (arith, length_more front l)) (omega (arith, length_more front l)) parts.1) in
    one_term front l live least c (term_word (length front) c) (term_list (suc (length front)) coefs) (minus_term (length front) n small.0 (omega arith)) low
    (dead_zero l c parts.0 (neg_not_zero n)) parts.0 more

pub le_of_test : (a b : ℤ) → IsTrue (int_le a b) → a ≤ℤ b
le_of_test a b test = omega (arith, ints, test)

-- Forms that fit

between_low : (low high z : ℤ) → IsTrue (is_between low high z) → (low ≤ℤ z) × (z ≤ℤ high)
between_low low high z h = let parts = and_parts (int_le low z) (int_le z high) h in (le_of_test low z parts.0, le_of_test z high parts.1)

small_between : (z : ℤ) → IsTrue (is_between (neg_ℤ (pos 2147483648)) (pos 2147483647) z) → IsSmall z
small_between (pos n) h = let range = between_low (neg_ℤ (pos 2147483648)) (pos 2147483647) (pos n) h in omega (arith, ints, range.1)
small_between (negsuc n) h = let range = between_low (neg_ℤ (pos 2147483648)) (pos 2147483647) (negsuc n) h in omega (arith, ints, range.0)

small_coefficient : (l : Bool) (c : ℤ) → IsTrue (is_coefficient l c) → IsSmall c
small_coefficient true (pos n) h = let range = between_low (neg_ℤ (pos 32768)) (pos 32767) (pos n) h in omega (arith, ints, range.1)
small_coefficient true (negsuc n) h = let range = between_low (neg_ℤ (pos 32768)) (pos 32767) (negsuc n) h in omega (arith, ints, range.0)
small_coefficient false (pos n) h = let range = between_low (pos 0) (pos 0) (pos n) h in omega (arith, ints, range.1)
small_coefficient false (negsuc n) h = let range = between_low (pos 0) (pos 0) (negsuc n) h in omega (arith, ints, range.0)

small_coefficients : (live : List Bool) (coefs : List ℤ) → IsTrue (are_coefficients live coefs) → AllSmall coefs × (length coefs ≡ length live)
small_coefficients [] [] h = (tt, refl)
small_coefficients [] (c ∷ coefs) h = grind arith
small_coefficients (l ∷ live) [] h = grind arith
small_coefficients (l ∷ live) (c ∷ coefs) h =
    let parts = and_parts (is_coefficient l c) (are_coefficients live coefs) h in
    let more = small_coefficients live coefs parts.1 in
    ((small_coefficient l c parts.0, more.0), ap suc more.1)

pub spelled_form : (live : List Bool) (f : Form) → length live ≡ 8 → IsTrue (fitting.is_form live f) → IsSpelled f
spelled_form live f eight_live h =
    let parts = and_parts (is_between (neg_ℤ (pos 2147483648)) (pos 2147483647) f.constant) (are_coefficients live f.coefs) h in
    let coefs = small_coefficients live f.coefs parts.1 in
    record { constant = small_between f.constant parts.0; coefs = coefs.0; few = coefs.1 ∙ eight_live }

pub form_fits : (live : List Bool) (f : Form) → length live ≡ 8 → IsTrue (fitting.is_form live f) → IsTrue (is_form_over live (form_word f))
form_fits live f eight_live h =
    let k = spelled_form live f eight_live h in
    let parts = and_parts (is_between (neg_ℤ (pos 2147483648)) (pos 2147483647) f.constant) (are_coefficients live f.coefs) h in
    let few : 0 + length f.coefs < 2 ^ 64 = (let n = k.few in omega arith) in
    subst (λ (ps : List (List ℕ)). IsTrue (is_between (neg_ℤ (pos 2147483648)) (pos 2147483647) (number_in (slice_index_or ps 0 [])) && are_terms live 0 (drop 1 ps))) (sym (parts_of_form f k))
    (and_from (is_between (neg_ℤ (pos 2147483648)) (pos 2147483647) (number_in (signed_decimal f.constant))) (are_terms live 0 (term_list 0 f.coefs))
    (subst (λ (z : ℤ). IsTrue (is_between (neg_ℤ (pos 2147483648)) (pos 2147483647) z)) (sym (number_back f.constant k.constant)) parts.0)
    (terms_over [] live 0 f.coefs k.coefs few (omega arith) parts.1))
