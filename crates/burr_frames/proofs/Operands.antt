-- Operands in the code, the bottom first, and in definitions, the top first.
use Rattle.std.proofs.Common.{◌≡◌, ◌+◌, ◌-◌, ℕ, List, [], ◌∷◌, ◌++◌, length, take, drop, refl, sym, ap, subst, ◌∙◌, arith, slice_index_or}
use Rattle.std.specs.Prelude.{reverse, Option, Some, None, IfSome, slice_get}
use Rattle.std.proofs.lemmas.Option.{slice_get_within, get_or_from_slice_get}
use Rattle.std.proofs.lemmas.List.{take_all, take_more, reverse-append}
use Rattle.std.proofs.lemmas.List.Elements.{All-get_or}
use Rattle.burr_forms.specs.Rules.Forms.{Form, IsSmallForm, AllSmallForms}

-- what is left where the topmost is taken off
pub taken_off : (forms : List Form) → reverse (take (length forms - 1) forms) ≡ drop 1 (reverse forms)
taken_off [] = refl
taken_off (f ∷ forms) =
    let below = take (length (f ∷ forms) - 1) (f ∷ forms) in
    let last = slice_index_or (f ∷ forms) (length (f ∷ forms) - 1) f in
    let count : (length (f ∷ forms) - 1) + 1 ≡ length (f ∷ forms) = omega arith in
    let parts : f ∷ forms ≡ below ++ last ∷ [] =
    sym (take_all (length (f ∷ forms)) (f ∷ forms) (omega arith)) ∙ sym (ap (λ (n : ℕ). take n (f ∷ forms)) count)
    ∙ take_more (f ∷ forms) (length (f ∷ forms) - 1) f (omega arith) in
    sym (ap (λ (fs : List Form). drop 1 (reverse fs)) parts ∙ ap (drop 1) (reverse-append below (last ∷ [])))

-- what is found among small forms is small
pub small_found : (forms : List Form) (i : ℕ) (found : Option Form) → found ≡ slice_get forms i → AllSmallForms forms
    → IfSome found IsSmallForm
small_found forms i None e small = tt
small_found forms i (Some f) e small =
    subst IsSmallForm (get_or_from_slice_get forms i f f (sym e))
    (All-get_or IsSmallForm forms i f (slice_get_within forms i f (sym e)) small)
