-- The forms in the live slots, found slot by slot.
use Rattle.std.proofs.Common.{◌≡◌, ℕ, suc, ◌+◌, ◌≤◌, length, get_or, arith, List, [], ◌∷◌, ◌++◌, drop, Option, Some, None, refl, sym, ap, ◌∙◌, append_assoc}
use Rattle.std.specs.Prelude.{slice_get}
use Rattle.std.proofs.lemmas.Option.{none-some, same_Some}
use Rattle.std.proofs.lemmas.List.{drop_all, drop-drop, get_or-drop, append-nil}
use Rattle.burr_code.specs.Labels.{with_first}
use Rattle.burr_code.proofs.Common.Labels.{with_first_is}
use Rattle.burr_forms.specs.Rules.Forms.{Form}
use Rattle.burr_container.specs.Rules.Plans.{Range}
use Rattle.burr_frames.specs.Rules.States.{live_ranges}
use Rattle.burr_frames.specs.Rules.Arrival.{live_forms}
use Rattle.burr_container.proofs.Common.ListsRead.{drop_here}

-- forms, and after them others if there are
abbrev pub in_front : List Form → Option (List Form) → Option (List Form)
in_front forms None = None
in_front forms (Some others) = Some (forms ++ others)

-- the forms so far, and then those of the slots from number v on
abbrev pub found_after : List Form → ℕ → List (Option Range) → List (Option Form) → Option (List Form)
found_after forms v slots known = in_front forms (live_forms (drop v slots) (drop v known))

in_front_first : (forms : List Form) (form : Form) (others : Option (List Form))
    → in_front forms (with_first (Some form) others) ≡ in_front (forms ++ form ∷ []) others
in_front_first forms form None = refl
in_front_first forms form (Some others) = ap Some (sym (append_assoc forms (form ∷ []) others))

-- the form that comes next
at_front : (v : ℕ) (known : List (Option Form)) → get_or (drop v known) 0 None ≡ get_or known v None
at_front v known = let here : v + 0 ≡ v = omega arith in get_or-drop v known 0 None ∙ ap (λ n. get_or known n None) here

next_skipped : (slots : List (Option Range)) (known : List (Option Form))
    → live_forms (None ∷ slots) known ≡ live_forms slots (drop 1 known)
next_skipped slots [] = refl
next_skipped slots (form ∷ known) = refl

next_known : (range : Range) (slots : List (Option Range)) (known : List (Option Form)) (form : Form) → get_or known 0 None ≡ Some form
    → live_forms (Some range ∷ slots) known ≡ with_first (Some form) (live_forms slots (drop 1 known))
next_known range slots [] form e = absurd (none-some form e)
next_known range slots (first ∷ known) form e = ap (λ (f : Option Form). with_first f (live_forms slots known)) e

next_unknown : (range : Range) (slots : List (Option Range)) (known : List (Option Form)) → get_or known 0 None ≡ None
    → live_forms (Some range ∷ slots) known ≡ None
next_unknown range slots [] e = refl
next_unknown range slots (first ∷ known) e = ap (λ (f : Option Form). with_first f (live_forms slots known)) e

-- a slot that is not live
pub found_not_live : (forms : List Form) (v : ℕ) (slots : List (Option Range)) (known : List (Option Form))
    → slice_get slots v ≡ Some None → found_after forms (v + 1) slots known ≡ found_after forms v slots known
found_not_live forms v slots known e =
    sym (ap (λ (s : List (Option Range)). in_front forms (live_forms s (drop v known))) (drop_here slots v None e)
    ∙ ap (in_front forms) (next_skipped (drop (v + 1) slots) (drop v known))
    ∙ ap (λ (k : List (Option Form)). in_front forms (live_forms (drop (v + 1) slots) k)) (drop-drop 1 v known))

-- a live slot whose form is known
pub found_live : (forms : List Form) (v : ℕ) (slots : List (Option Range)) (known : List (Option Form)) (range : Range) (form : Form)
    → slice_get slots v ≡ Some (Some range) → get_or known v None ≡ Some form
    → found_after (forms ++ form ∷ []) (v + 1) slots known ≡ found_after forms v slots known
found_live forms v slots known range form e f =
    sym (ap (λ (s : List (Option Range)). in_front forms (live_forms s (drop v known))) (drop_here slots v (Some range) e)
    ∙ ap (in_front forms) (next_known range (drop (v + 1) slots) (drop v known) form (at_front v known ∙ f))
    ∙ ap (λ (k : List (Option Form)). in_front forms (with_first (Some form) (live_forms (drop (v + 1) slots) k))) (drop-drop 1 v known)
    ∙ in_front_first forms form (live_forms (drop (v + 1) slots) (drop (v + 1) known)))

-- where nothing is known of a live slot
pub found_nothing : (forms : List Form) (v : ℕ) (slots : List (Option Range)) (known : List (Option Form)) (range : Range)
    → slice_get slots v ≡ Some (Some range) → get_or known v None ≡ None
    → found_after forms v slots known ≡ None
found_nothing forms v slots known range e f =
    ap (λ (s : List (Option Range)). in_front forms (live_forms s (drop v known))) (drop_here slots v (Some range) e)
    ∙ ap (in_front forms) (next_unknown range (drop (v + 1) slots) (drop v known) (at_front v known ∙ f))

-- nothing is left after the last slot
pub found_all : (forms : List Form) (v : ℕ) (slots : List (Option Range)) (known : List (Option Form))
    → length slots ≤ v → found_after forms v slots known ≡ Some forms
found_all forms v slots known l =
    ap (λ (s : List (Option Range)). in_front forms (live_forms s (drop v known))) (drop_all v slots l)
    ∙ ap Some (append-nil forms)

-- there is a form for each live slot
pub as_many_found : (slots : List (Option Range)) (known : List (Option Form)) (forms : List Form)
    → live_forms slots known ≡ Some forms → length forms ≡ length (live_ranges slots)
as_many_found [] known forms e = ap (length {A = Form}) (sym (same_Some [] forms e))
as_many_found (None ∷ slots) [] forms e = as_many_found slots [] forms e
as_many_found (None ∷ slots) (form ∷ known) forms e = as_many_found slots known forms e
as_many_found (Some range ∷ slots) [] forms e = absurd (none-some forms e)
as_many_found (Some range ∷ slots) (form ∷ known) forms e =
    let more = with_first_is form (live_forms slots known) forms e in
    sym (ap (length {A = Form}) more.4) ∙ ap suc (as_many_found slots known more.1 more.3)
