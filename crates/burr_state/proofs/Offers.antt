-- Labels that are offered to the operator.
use Rattle.std.proofs.Common.{◌≡◌, ◌<◌, ℕ, zero, suc, List, [], ◌∷◌, length, refl, ap, subst, ◌∙◌, arith, Some, None, Option, slice_get, ◌⊎◌, inl, inr}
use Rattle.std.proofs.lemmas.Option.{none-some, same_Some, slice_get_within, slice_get-get_or}
use Rattle.std.specs.Prelude.{get_or}
use Rattle.burr_code.specs.Labels.{labelled, with_first}
use Rattle.burr_state.specs.Views.Programs.{HasLabels}

-- the labels after the first are there too
rest_are_there : (positions : List ℕ) (label : ℕ) (labels : List ℕ) → HasLabels positions (label ∷ labels) → HasLabels positions labels
rest_are_there positions label labels all n other less at = all (suc n) other (omega (arith, less)) at

-- labels that are all there stand at as many positions as there are labels
pub labelled_all : (positions labels : List ℕ) → HasLabels positions labels → (to : List ℕ) × (labelled positions labels ≡ Some to) × (length to ≡ length labels)
labelled_all positions [] all = ([], refl, refl)
labelled_all positions (label ∷ labels) all =
    let more = labelled_all positions labels (rest_are_there positions label labels all) in
    let first = slice_get-get_or positions label 0 (all 0 label (omega arith) refl) in
    (get_or positions label 0 ∷ more.0, ap (λ o. with_first o (labelled positions labels)) first ∙ ap (λ o. with_first (Some (get_or positions label 0)) o) more.1, ap suc more.2)

-- a pair is there only where both are
both_there : {A : Type 0} (first : Option A) (more : Option (List A)) (all : List A) → with_first first more ≡ Some all → ((x : A) × (first ≡ Some x)) × ((xs : List A) × (more ≡ Some xs))
both_there None more all is = absurd (none-some _ is)
both_there (Some x) None all is = absurd (none-some _ is)
both_there (Some x) (Some xs) all is = ((x, refl), (xs, refl))

-- where labels stand at positions, all are there
pub all_labelled : (positions labels to : List ℕ) → labelled positions labels ≡ Some to → HasLabels positions labels
all_labelled positions [] to is n other less at = absurd (omega (arith, less))
all_labelled positions (label ∷ labels) to is zero other less at =
    let found = (both_there (slice_get positions label) (labelled positions labels) to is).0 in
    subst (λ l. l < length positions) (same_Some _ _ at) (slice_get_within positions label found.0 found.1)
all_labelled positions (label ∷ labels) to is (suc n) other less at =
    let found = (both_there (slice_get positions label) (labelled positions labels) to is).1 in
    all_labelled positions labels found.0 found.1 n other (omega (arith, less)) at

pub none_or_some : {A : Type 0} (o : Option A) → (o ≡ None) ⊎ ((x : A) × (o ≡ Some x))
none_or_some None = inl refl
none_or_some (Some x) = inr (x, refl)

-- where a label is missing, they do not all stand at positions
pub one_missing : (positions labels : List ℕ) → (¬ HasLabels positions labels) → labelled positions labels ≡ None
one_missing positions labels missing = by_cases (none_or_some (labelled positions labels)) where
  by_cases : (labelled positions labels ≡ None) ⊎ ((to : List ℕ) × (labelled positions labels ≡ Some to)) → labelled positions labels ≡ None
  by_cases (inl none) = none
  by_cases (inr some) = absurd (missing (all_labelled positions labels some.0 some.1))
