-- For the code: words of numbers, names and sets have no blank, so one that is all of some bytes is
-- their only word.
use Rattle.std.proofs.Common.{◌≡◌, ◌≢◌, ℕ, ◌==◌, List, [], ◌∷◌, length, drop, Bool, true, false, IsTrue, refl, sym, ap, subst, ◌∙◌, arith, eqb-true}
use Rattle.std.specs.Prelude.{◌&&◌, codes, nat_le, slice_index, slice_index_or, if◌then◌else◌}
use Rattle.std.specs.List.{list_all}
use Rattle.std.specs.Str.{bytes_eq}
use Rattle.std.specs.Str.Parse.{starts_with_minus}
use Rattle.std.proofs.lemmas.Bool.{and_parts}
use Rattle.std.proofs.lemmas.Slice.Eq.{bytes_eq-Decides}
use Rattle.burr_text.specs.Names.{is_letter, is_digit, is_name_byte}
use Rattle.burr_text.proofs.Common.Cuts.{Lacks}
use Rattle.burr_container.specs.Rules.Fitting.{is_name_text}
use Rattle.burr_plantext.specs.Rules.Written.{pieces, parted, in_first, is_count, is_natural, is_number, is_set}
use Rattle.burr_plantext.specs.Rules.Operands.{given, one}
use Rattle.burr_plantext.specs.Rules.Texts.{words_of}
use Rattle.burr_plantext.proofs.Common.Cuts.{some_pieces}
use Rattle.burr_plantext.proofs.Common.Pieces.{one_piece}
use Rattle.burr_plantext.proofs.Common.ParsedNumbers.{or_cases}

-- bytes that all pass a test lack the byte c, which does not pass it
each_passes : (is_so : ℕ → Bool) (c : ℕ) → is_so c ≡ false → (bytes : List ℕ) → IsTrue (list_all is_so bytes) → Lacks c bytes
each_passes is_so c fails [] h = tt
each_passes is_so c fails (b ∷ bytes) h =
    let parts = and_parts (is_so b) (list_all is_so bytes) h in
    (λ e. clash (is_so c) (subst (λ (x : ℕ). IsTrue (is_so x)) e parts.0) fails, each_passes is_so c fails bytes parts.1)
  where
    clash : (t : Bool) → IsTrue t → t ≡ false → ⊥
    clash true h e = cc
    clash false h e = cc

pub name_lacks : (w : List ℕ) → IsTrue (is_name_text w) → Lacks 32 w
name_lacks w h =
    let two = and_parts (is_letter (slice_index w 0) && list_all is_name_byte w) (nat_le (length w) 32) h in
    each_passes is_name_byte 32 refl w (and_parts (is_letter (slice_index w 0)) (list_all is_name_byte w) two.0).1

count_lacks : (w : List ℕ) → IsTrue (is_count w) → Lacks 32 w
count_lacks [] h = tt
count_lacks (b ∷ w) h =
    let parts = and_parts (nat_le 49 b && nat_le b 57) (list_all is_digit w) h in
    let low = and_parts (nat_le 49 b) (nat_le b 57) parts.0 in
    (λ e. not_low b low.0 e, each_passes is_digit 32 refl w parts.1)
  where
    not_low : (b : ℕ) → IsTrue (nat_le 49 b) → b ≡ 32 → ⊥
    not_low b h e = let k = subst (λ (x : ℕ). IsTrue (nat_le 49 x)) e h in cc

natural_lacks : (w : List ℕ) → IsTrue (is_natural w) → Lacks 32 w
natural_lacks w h =
    or_cases (bytes_eq w (codes "0")) (is_count w) (Lacks 32 w)
    (λ e. subst (Lacks 32) (sym ((bytes_eq-Decides w (codes "0")).0 e)) (λ e. omega (arith, e), tt)) (count_lacks w) h

minus_lacks : (w : List ℕ) → starts_with_minus w ≡ true → Lacks 32 (drop 1 w) → Lacks 32 w
minus_lacks [] e h = tt
minus_lacks (b ∷ w) e h = let minus = eqb-true b 45 e in (λ f. omega (arith, minus, f), h)

pub number_lacks : (w : List ℕ) → IsTrue (is_number w) → Lacks 32 w
number_lacks w h =
    or_cases (is_natural w) (starts_with_minus w && is_count (drop 1 w)) (Lacks 32 w) (natural_lacks w)
    (λ e. let parts = and_parts (starts_with_minus w) (is_count (drop 1 w)) e in minus_lacks w parts.0 (count_lacks (drop 1 w) parts.1)) h

abbrev AllLack : ℕ → List (List ℕ) → Type 0
AllLack d [] = Unit {0}
AllLack d (p ∷ ps) = Lacks d p × AllLack d ps

lacks_first : (d b : ℕ) (ps : List (List ℕ)) → AllLack d (in_first b ps) → (b ≢ d) × AllLack d ps
lacks_first d b [] h = (h.0.0, tt)
lacks_first d b (p ∷ ps) h = (h.0.0, (h.0.1, h.1))

lacks_all : (c d : ℕ) → c ≢ d → (w : List ℕ) → AllLack d (pieces c w) → Lacks d w
lacks_all c d differ [] h = tt
lacks_all c d differ (b ∷ w) h = by (b == c) refl h (lacks_all c d differ w)
  where
    by : (t : Bool) → (b == c) ≡ t → AllLack d (parted t b (pieces c w)) → (AllLack d (pieces c w) → Lacks d w) → Lacks d (b ∷ w)
    by true e k more = (λ f. differ (sym (eqb-true b c e) ∙ f), more k.1)
    by false e k more = let parts = lacks_first d b (pieces c w) k in (parts.0, more parts.1)

-- where no piece has a byte, no bytes have it, if it is no separator
pieces_lack : (c d : ℕ) → c ≢ d → (w : List ℕ) (is_so : List ℕ → Bool) → ((p : List ℕ) → IsTrue (is_so p) → Lacks d p) → IsTrue (list_all is_so (pieces c w)) → Lacks d w
pieces_lack c d differ w is_so lack h = lacks_all c d differ w (each (pieces c w) h)
  where
    each : (ps : List (List ℕ)) → IsTrue (list_all is_so ps) → AllLack d ps
    each [] h = tt
    each (p ∷ ps) h = let parts = and_parts (is_so p) (list_all is_so ps) h in (lack p parts.0, each ps parts.1)

pub set_lacks : (w : List ℕ) → IsTrue (is_set w) → Lacks 32 w
set_lacks w h = by (bytes_eq w (codes "-")) refl
  where
    by : (t : Bool) → bytes_eq w (codes "-") ≡ t → Lacks 32 w
    by true e = subst (Lacks 32) (sym ((bytes_eq-Decides w (codes "-")).0 e)) (λ f. omega (arith, f), tt)
    by false e = pieces_lack 44 32 (λ f. omega (arith, f)) w is_number number_lacks (subst (λ (t : Bool). IsTrue (list_all is_number (if t then [] else pieces 44 w))) e h)

-- the only piece is all of the bytes
only_piece : (c : ℕ) (w p : List ℕ) → pieces c w ≡ p ∷ [] → p ≡ w
only_piece c [] p e = sym (ap (λ (ps : List (List ℕ)). slice_index_or ps 0 []) e)
only_piece c (b ∷ w) p e = by (b == c) (pieces c w) (some_pieces c w) (only_piece c w) e
  where
    by : (t : Bool) (ps : List (List ℕ)) → ((q : List ℕ) × (more : List (List ℕ)) × (ps ≡ q ∷ more)) → ((q : List ℕ) → ps ≡ q ∷ [] → q ≡ w) → parted t b ps ≡ p ∷ [] → p ≡ b ∷ w
    by true ps (q, more, is) h e = absurd (two (sym (ap (λ (s : List (List ℕ)). [] ∷ s) is) ∙ e))
      where
        two : [] ∷ q ∷ more ≡ p ∷ [] → ⊥
        two e = let k = ap (λ (s : List (List ℕ)). length s) e in omega (arith, k)
    by false [] some h e = sym (ap (λ (ps : List (List ℕ)). slice_index_or ps 0 []) e) ∙ absurd (let k = ap (λ (s : List (List ℕ)). length s) some.2 in omega (arith, k))
    by false (q ∷ []) some h e = sym (ap (λ (ps : List (List ℕ)). slice_index_or ps 0 []) e) ∙ ap (λ (r : List ℕ). b ∷ r) (h q refl)
    by false (q ∷ r ∷ more) some h e = absurd (let k = ap (λ (s : List (List ℕ)). length s) e in omega (arith, k))

-- one operand, where no word that passes the test has a blank
pub one_word : {A : Type 0} (is_so : List ℕ → Bool) → ((w : List ℕ) → IsTrue (is_so w) → Lacks 32 w) → (line : List ℕ → A) (w : List ℕ)
    → one is_so line (words_of w) ≡ given (is_so w) (line w)
one_word {A} is_so lack line w = by (is_so w) refl (pieces 32 w) refl
  where
    by : (t : Bool) → is_so w ≡ t → (ps : List (List ℕ)) → pieces 32 w ≡ ps → one is_so line (words_of w) ≡ given (is_so w) (line w)
    by true e ps f = ap (one is_so line) (one_piece 32 w (lack w e))
    by false e [] f = ap (one is_so line) f ∙ sym (ap (λ (t : Bool). given t (line w)) e)
    by false e (p ∷ []) f = ap (one is_so line) f ∙ ap (λ (q : List ℕ). given (is_so q) (line q)) (only_piece 32 w p f)
    by false e (p ∷ q ∷ more) f = ap (one is_so line) f ∙ sym (ap (λ (t : Bool). given t (line w)) e)
