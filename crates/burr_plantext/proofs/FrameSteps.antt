-- The lines of frames, one after the other.
use Rattle.std.proofs.Common.{◌≡◌, ℕ, zero, suc, ◌-◌, ◌≤◌, ◌&&◌, ℤ, pos, negsuc, neg_ℤ, Bool, true, false, IsTrue, Option, Some, None, List, [], ◌∷◌, ◌++◌, map, drop, replicate, codes, refl, sym, ap, ◌∙◌, subst, arith, append_assoc, leb-true, int_le, slice_get}
use Rattle.std.specs.List.{list_all}
use Rattle.std.specs.Fmt.{decimal, signed_decimal}
use Rattle.std.proofs.lemmas.Bool.{and_parts, false≢true}
use Rattle.burr_code.specs.declared.placement.Placement.{Placement}
use Rattle.burr_forms.specs.Rules.Forms.{Form}
use Rattle.burr_container.specs.Rules.Plans.{FormCell, Range, Frame, of_live, padded, over_symbols, place_over_symbols, live_slots}
use Rattle.burr_plantext.specs.Rules.Lines.{Line, AtLine}
use Rattle.burr_plantext.specs.Rules.Written.{slot_numbers}
use Rattle.burr_plantext.specs.Rules.Writing.{text_of, line_text}
use Rattle.burr_plantext.specs.Rules.Listing.{term_word, terms_word, form_word, spot_of}
use Rattle.burr_plantext.specs.Views.Parts.{grip_text, range_text, slot_text, slots_text, guards_text, stack_text, places_text, results_text, frame_text}
use Rattle.burr_plantext.specs.Views.Symbols.{live_numbers, AreSymbols, AreOver, ArePlacesOver, IsOverLive, symbol_terms, symbol_word, symbol_line, symbol_piece}
use Rattle.std.proofs.lemmas.Option.{same_Some, none-some}
use Rattle.std.proofs.lemmas.Grind.{flat_map-append}
use Rattle.burr_code.specs.declared.placement.Placement.TheVariants.{Apart, On}
use Rattle.burr_container.specs.Rules.Fitting.{is_form, is_between, is_coefficient, are_coefficients, is_place, is_tray}
use Rattle.burr_plantext.proofs.Steps.{left_at}
use Rattle.burr_plantext.proofs.Texts.Tests.{and_three}

-- Forms over symbols

zero_alone : (c : ℤ) → IsTrue (is_between (pos 0) (pos 0) c) → c ≡ pos 0
zero_alone (pos zero) h = refl
zero_alone (pos (suc n)) h =
    let low = leb-true (suc n) 0 (and_parts (int_le (pos 0) (pos (suc n))) (int_le (pos (suc n)) (pos 0)) h).1 in
    absurd (omega (arith, low))
zero_alone (negsuc n) h = absurd (false≢true h)

no_terms : (symbols : List ℕ) (n : ℕ) → symbol_terms symbols (replicate n (pos 0)) ≡ []
no_terms [] n = refl
no_terms (s ∷ symbols) zero = refl
no_terms (s ∷ symbols) (suc n) = no_terms symbols n

live_terms : (slot : ℕ) (live : List Bool) (coefs : List ℤ) (rest : List ℕ) (n : ℕ)
    → IsTrue (are_coefficients live coefs)
    → symbol_terms (live_numbers slot live ++ rest) (of_live live coefs ++ replicate n (pos 0))
    ≡ terms_word slot coefs
live_terms slot [] [] rest n h = no_terms rest n
live_terms slot [] (c ∷ coefs) rest n h = absurd (false≢true h)
live_terms slot (l ∷ live) [] rest n h = absurd (false≢true h)
live_terms slot (true ∷ live) (c ∷ coefs) rest n h =
    let parts = and_parts (is_coefficient true c) (are_coefficients live coefs) h in
    ap (λ (more : List ℕ). term_word slot c ++ more)
    (live_terms (suc slot) live coefs rest n parts.1)
live_terms slot (false ∷ live) (c ∷ coefs) rest n h =
    let parts = and_parts (is_coefficient false c) (are_coefficients live coefs) h in
    live_terms (suc slot) live coefs rest n parts.1
    ∙ ap (λ (c : ℤ). term_word slot c ++ terms_word (suc slot) coefs)
    (sym (zero_alone c parts.0))

word_over : (live : List Bool) (symbols : List ℕ) (f : Form) → AreSymbols live symbols
    → IsTrue (is_form live f) → symbol_word symbols (over_symbols live f) ≡ form_word f
word_over live symbols f (rest, e) h =
    let parts = and_parts (is_between (neg_ℤ (pos 2147483648)) (pos 2147483647) f.constant)
    (are_coefficients live f.coefs) h in
    ap (λ (terms : List ℕ). signed_decimal f.constant ++ terms)
    (ap (λ (s : List ℕ). symbol_terms s (padded (of_live live f.coefs))) e
    ∙ live_terms 0 live f.coefs rest _ parts.1)

-- Elements of lists

map_at : {A B : Type 0} (f : A → B) (xs : List A) (n : ℕ) (y : B)
    → slice_get (map f xs) n ≡ Some y → (x : A) × (slice_get xs n ≡ Some x) × (f x ≡ y)
map_at f [] n y e = absurd (none-some y e)
map_at f (x ∷ xs) zero y e = (x, refl, same_Some (f x) y e)
map_at f (x ∷ xs) (suc n) y e = map_at f xs n y e

pub all_at : {A : Type 0} (p : A → Bool) (xs : List A) (n : ℕ) (x : A) → IsTrue (list_all p xs)
    → slice_get xs n ≡ Some x → IsTrue (p x)
all_at p [] n x h e = absurd (none-some x e)
all_at p (y ∷ xs) zero x h e =
    subst (λ x. IsTrue (p x)) (same_Some y x e) (and_parts (p y) (list_all p xs) h).0
all_at p (y ∷ xs) (suc n) x h e = all_at p xs n x (and_parts (p y) (list_all p xs) h).1 e

-- Lines of forms

pub form_left : (line : List ℕ → Line) (word : List ℕ)
    → ((w : List ℕ) → line_text (line w) ≡ word ++ (w ++ 10 ∷ []))
    → (live : List Bool) (symbols : List ℕ) (forms : List Form) (n next : ℕ) (f : Form)
    → AreSymbols live symbols → AreOver live forms → next ≡ suc n
    → slice_get (map (over_symbols live) forms) n ≡ Some f
    → text_of (map line (map form_word (drop n forms)))
    ≡ symbol_line word symbols f ++ text_of (map line (map form_word (drop next forms)))
form_left line word spelled live symbols forms n next f own over e here =
    let (g, there, same) = map_at (over_symbols live) forms n f here in
    let same_word : form_word g ≡ symbol_word symbols f =
    sym (word_over live symbols g own (all_at (is_form live) forms n g over there))
    ∙ ap (symbol_word symbols) same in
    ap (λ (fs : List Form). text_of (map line (map form_word fs))) (left_at forms n next g e there)
    ∙ ap (λ (t : List ℕ). t ++ text_of (map line (map form_word (drop next forms))))
    (spelled (form_word g) ∙ ap (λ (w : List ℕ). word ++ (w ++ 10 ∷ [])) same_word)

-- Lines of pieces

spot_over : (live : List Bool) (symbols : List ℕ) (piece : ℕ) (place : Placement FormCell)
    → AreSymbols live symbols → IsTrue (is_place live place)
    → symbol_piece symbols piece (place_over_symbols live place)
    ≡ line_text (AtLine (record { piece = decimal piece; spot = spot_of place }))
spot_over live symbols piece Apart own h =
    ap (λ (t : List ℕ). codes "at " ++ t)
    (sym (append_assoc (decimal piece) (codes " apart") (10 ∷ [])))
spot_over live symbols piece (On tray at) own h =
    let a = and_parts (is_tray tray && is_form live at.x && is_form live at.y)
    (is_form live at.z) h in
    let tests = and_three a.0 in
    let x = word_over live symbols at.x own tests.1 in
    let y = word_over live symbols at.y own tests.2 in
    let z = word_over live symbols at.z own a.1 in
    ap (λ (t : List ℕ). codes "at " ++ t)
    ((λ i. decimal piece ++ ((32 ∷ (decimal tray ++ (32 ∷ (x i ++ (32 ∷ (y i ++ (32 ∷ z i))))))) ++ 10 ∷ []))
    ∙ sym (append_assoc (decimal piece) (32 ∷ (decimal tray ++ 32 ∷ (form_word at.x ++ 32 ∷ (form_word at.y ++ 32 ∷ form_word at.z)))) (10 ∷ [])))

pub place_left : (live : List Bool) (symbols : List ℕ) (places : List (Placement FormCell))
    (n next : ℕ) (view : Placement FormCell) → AreSymbols live symbols
    → ArePlacesOver live places → next ≡ suc n
    → slice_get (map (place_over_symbols live) places) n ≡ Some view
    → places_text n (drop n places)
    ≡ symbol_piece symbols n view ++ places_text next (drop next places)
place_left live symbols places n next view own over e here =
    let (p, there, same) = map_at (place_over_symbols live) places n view here in
    let fits = all_at (is_place live) places n p over there in
    ap (places_text n) (left_at places n next p e there)
    ∙ ap (λ (t : List ℕ). t ++ places_text (suc n) (drop next places))
    (sym (spot_over live symbols n p own fits) ∙ ap (symbol_piece symbols n) same)
    ∙ ap (λ (k : ℕ). symbol_piece symbols n view ++ places_text k (drop next places)) (sym e)

-- Lines of ranges

pub slot_passed : (slots : List (Option Range)) (n next : ℕ) (found : Option Range)
    (text whole : List ℕ) → next ≡ suc n → slice_get slots n ≡ Some found
    → ((range : Range) → found ≡ Some range → ⊥) → text ++ slots_text n (drop n slots) ≡ whole
    → text ++ slots_text next (drop next slots) ≡ whole
slot_passed slots n next None text whole e here dead so =
    (λ i. text ++ slots_text (e i) (drop next slots))
    ∙ ap (λ (left : List (Option Range)). text ++ slots_text n left) (sym (left_at slots n next None e here)) ∙ so
slot_passed slots n next (Some range) text whole e here dead so = absurd (dead range refl)

pub slot_turn : (slots : List (Option Range)) (n next : ℕ) (found : Option Range)
    (range : Range) (text whole : List ℕ) → next ≡ suc n → slice_get slots n ≡ Some found
    → found ≡ Some range → text ++ slots_text n (drop n slots) ≡ whole
    → ((text ++ (codes "slot " ++ decimal n)) ++ range_text (codes " ") range)
    ++ slots_text next (drop next slots) ≡ whole
slot_turn slots n next found range text whole e here is so =
    let all : ((text ++ (codes "slot " ++ decimal n)) ++ range_text (codes " ") range) ++ slots_text (suc n) (drop next slots)
    ≡ text ++ slots_text n (Some range ∷ drop next slots) = simp append_assoc in
    (λ i. ((text ++ (codes "slot " ++ decimal n)) ++ range_text (codes " ") range) ++ slots_text (e i) (drop next slots)) ∙ all
    ∙ ap (λ (left : List (Option Range)). text ++ slots_text n left)
    (sym (left_at slots n next (Some range) e (here ∙ ap (λ (r : Option Range). Some r) is))) ∙ so

pub result_left : (results : List Range) (n next : ℕ) (range : Range) → next ≡ suc n
    → slice_get results n ≡ Some range
    → results_text (drop n results)
    ≡ range_text (codes "result ") range ++ results_text (drop next results)
result_left results n next range e here =
    ap results_text (left_at results n next range e here)
    ∙ ap (λ (t : List ℕ). (codes "result" ++ 32 ∷ t) ++ results_text (drop next results))
    (append_assoc (signed_decimal range.0) (32 ∷ signed_decimal range.1) (10 ∷ []))

-- Frames

frame_parts : (f : Frame)
    → frame_text f
    ≡ grip_text (codes "frame ") f.tray f.grip ++ (slots_text 0 f.slots ++ (guards_text f.guards
    ++ (stack_text f.stack ++ ((codes "cost " ++ (form_word f.cost ++ 10 ∷ []))
    ++ places_text 0 f.places))))
frame_parts f = simp (flat_map-append, append_assoc)

six_parts : (old a b c d e f : List ℕ)
    → (((((old ++ a) ++ b) ++ c) ++ d) ++ e) ++ f ≡ old ++ (a ++ (b ++ (c ++ (d ++ (e ++ f)))))
six_parts old a b c d e f = simp append_assoc

pub frame_added : (f : Frame) (symbols : List ℕ) (cost : Form)
    (old gripped slotted guarded stacked costed new : List ℕ) → IsOverLive f
    → AreSymbols (live_slots f.slots) symbols → cost ≡ over_symbols (live_slots f.slots) f.cost
    → gripped ≡ old ++ grip_text (codes "frame ") f.tray f.grip
    → slotted ≡ gripped ++ slots_text 0 f.slots → guarded ≡ slotted ++ guards_text f.guards
    → stacked ≡ guarded ++ stack_text f.stack
    → costed ≡ stacked ++ symbol_line (codes "cost ") symbols cost
    → new ≡ costed ++ places_text 0 f.places → new ≡ old ++ frame_text f
frame_added f symbols cost old gripped slotted guarded stacked costed new over own is grip slots guards stack line places =
    let word : symbol_word symbols cost ≡ form_word f.cost =
    ap (symbol_word symbols) is ∙ word_over (live_slots f.slots) symbols f.cost own over.cost in
    rw (places, line, stack, guards, slots, grip) (
    ap (λ (w : List ℕ). (((((old ++ grip_text (codes "frame ") f.tray f.grip) ++ slots_text 0 f.slots) ++ guards_text f.guards) ++ stack_text f.stack) ++ (codes "cost " ++ (w ++ 10 ∷ []))) ++ places_text 0 f.places) word
    ∙ six_parts old (grip_text (codes "frame ") f.tray f.grip) (slots_text 0 f.slots) (guards_text f.guards) (stack_text f.stack) (codes "cost " ++ (form_word f.cost ++ 10 ∷ [])) (places_text 0 f.places)
    ∙ ap (λ (t : List ℕ). old ++ t) (sym (frame_parts f)))

-- The first slots as symbols

pub first_symbols : (n : ℕ) → n ≤ 6
    → AreSymbols (replicate n true ++ replicate (8 - n) false) slot_numbers
first_symbols zero h = (slot_numbers, refl)
first_symbols (suc zero) h = (drop 1 slot_numbers, refl)
first_symbols (suc (suc zero)) h = (drop 2 slot_numbers, refl)
first_symbols (suc (suc (suc zero))) h = (drop 3 slot_numbers, refl)
first_symbols (suc (suc (suc (suc zero)))) h = (drop 4 slot_numbers, refl)
first_symbols (suc (suc (suc (suc (suc zero))))) h = (drop 5 slot_numbers, refl)
first_symbols (suc (suc (suc (suc (suc (suc zero)))))) h = (drop 6 slot_numbers, refl)
first_symbols (suc (suc (suc (suc (suc (suc (suc n))))))) h = absurd (omega (arith, h))
