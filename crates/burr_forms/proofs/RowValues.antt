-- Values of some forms, in rows.
use Rattle.std.proofs.Common.{◌≡◌, ℕ, ◌≤◌, ◌<◌, List, [], ◌∷◌, length, slice_index_or}
use Rattle.std.proofs.lemmas.List.{length-map}
use Rattle.std.proofs.lemmas.List.Elements.{All-head, All-tail, All-nil, All-cons}
use Rattle.burr_forms.specs.Rules.Forms.{Form, Point, value, values, IsSmallForm, AllSmallForms, AllNear}
use Rattle.burr_forms.specs.Views.Searching.{IsBounded, AllBounded}
use Rattle.burr_forms.proofs.Values.{value_bound}

pub values_bounded : (point : Point) (forms : List Form) → AllSmallForms forms → AllNear point → length point ≤ 8 → AllBounded (values point forms)
values_bounded point [] s n few = All-nil IsBounded
values_bounded point (f ∷ forms) s n few =
    All-cons IsBounded (value point f) (values point forms) (value_bound point f (All-head IsSmallForm f forms s) n few)
    (values_bounded point forms (All-tail IsSmallForm f forms s) n few)

pub length-values : (point : Point) (forms : List Form) → length (values point forms) ≡ length forms
length-values point forms = length-map forms (value point)

pub small_form_at : (i : ℕ) (forms : List Form) (d : Form) → AllSmallForms forms → i < length forms → IsSmallForm (slice_index_or forms i d)
small_form_at i forms d s l = s i d l
