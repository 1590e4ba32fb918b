-- What forms show of all points of a region at once.
use Rattle.std.proofs.Common.{◌≡◌, ◌↔◌, ◌∙◌, ℕ, zero, suc, ◌+◌, ◌<◌, Bool, true, false, IsTrue, List, [], ◌∷◌, ◌++◌, length, take, drop, refl, sym, ap, subst, arith, inl, inr, slice_index_or, pos, ℤ, map}
use Rattle.std.specs.Prelude.{◌&&◌, ◌≤ℤ◌, All}
use Rattle.std.specs.Bool.{Decides}
use Rattle.std.specs.Cmp.Lexicographic.{pointwise}
use Rattle.std.specs.Cmp.Rules.{signed_items}
use Rattle.std.specs.List.{AllZip}
use Rattle.std.specs.Ordering.{int_eq}
use Rattle.std.proofs.lemmas.Bool.{true≢false}
use Rattle.std.proofs.lemmas.Bool.Decides.{Decides-and, Decides-int_eq, Decides-like}
use Rattle.std.proofs.lemmas.Int.{ints}
use Rattle.std.proofs.lemmas.List.{take_more, take-map, drop-map}
use Rattle.std.proofs.lemmas.List.Elements.{All-contains}
use Rattle.std.proofs.lemmas.Slice.Zip.{all_zipped_more}
use Rattle.burr_forms.specs.Rules.Forms.{Form, Point, number, value, values, minus_form, substituted, IsSmallForm}
use Rattle.burr_forms.specs.Rules.Conditions.{Region, Throughout, at_values}
use Rattle.burr_forms.specs.Rules.Points.{InRange, InBox}
use Rattle.burr_container.specs.Rules.Plans.{Range}
use Rattle.burr_frames.specs.Views.Comparing.{Target, symbols_of, IsMetAt, IsMetBy, NoneBelow}
use Rattle.burr_frames.specs.Views.Shown.{ShowsNotNegative, ShowsAbove, ShowsWithin, ShowsNoneBelow, ShowsMetBy}
use Rattle.burr_frames.proofs.Common.FormValues.{value_number, value_minus, value_substituted}

-- forms are the same where `==` says so
pub form_decides : (f g : Form) → Decides (int_eq f.constant g.constant && pointwise int_eq f.coefs g.coefs) (f ≡ g)
form_decides f g =
    Decides-like (int_eq f.constant g.constant && pointwise int_eq f.coefs g.coefs) (λ same. λ i. record { constant = same.0 i; coefs = same.1 i })
    (λ same. (ap (λ (h : Form). h.constant) same, ap (λ (h : Form). h.coefs) same))
    (Decides-and (int_eq f.constant g.constant) (pointwise int_eq f.coefs g.coefs)
    (Decides-int_eq f.constant g.constant) (signed_items f.coefs g.coefs))

-- What is tested

-- what `&&` says where the first test passed
pub and_passed : {A B : Type 0} {v a b : Bool} → v ≡ b → a ≡ true → IsTrue a ↔ A → IsTrue b ↔ B → IsTrue v ↔ (A × B)
and_passed {A} {B} is passed first second =
    subst (λ (v : Bool). IsTrue v ↔ (A × B)) (sym is) ((λ also. (first.0 passed, second.0 also)), (λ both. second.1 both.1))

-- and where it failed
pub and_failed : {A B : Type 0} {v a : Bool} → v ≡ a → a ≡ false → IsTrue a ↔ A → IsTrue v ↔ (A × B)
and_failed {A} {B} is failed first =
    subst (λ (v : Bool). IsTrue v ↔ (A × B)) (sym is) ((λ passed. absurd (true≢false (sym passed ∙ failed))), (λ both. first.1 both.0))

-- what holds pair by pair holds of pair k
pub pair_at : {A B : Type 0} (R : A → B → Type 0) (xs : List A) (ys : List B) (k : ℕ) (x d : A) (y e : B) → k < length xs
    → x ≡ slice_index_or xs k d → y ≡ slice_index_or ys k e → AllZip R xs ys → R x y
pair_at {A} {B} R xs ys k x d y e more is other each =
    subst (R x) (sym other) (subst (λ (a : A). R a (slice_index_or ys k e)) (sym is) (at xs ys k each more))
  where
    at : (xs : List A) (ys : List B) (k : ℕ) → AllZip R xs ys → k < length xs → R (slice_index_or xs k d) (slice_index_or ys k e)
    at (x ∷ xs) (y ∷ ys) zero each more = each.0
    at (x ∷ xs) (y ∷ ys) (suc k) each more = at xs ys k each.1 (omega (arith, more))
    at xs ys k each more = absurd (grind (arith, each, more))

-- it holds of pair k, and of those before it
pub pair_more : {A B : Type 0} (R : A → B → Type 0) (xs : List A) (ys : List B) (k : ℕ) (x d : A) (y e : B) → k < length xs
    → length xs ≡ length ys → x ≡ slice_index_or xs k d → y ≡ slice_index_or ys k e → R x y → AllZip R (take k xs) (take k ys)
    → AllZip R (take (k + 1) xs) (take (k + 1) ys)
pair_more {A} {B} R xs ys k x d y e more many is other here before =
    let fronts : take k xs ++ x ∷ [] ≡ take (k + 1) xs =
    ap (λ (a : A). take k xs ++ a ∷ []) is ∙ sym (take_more xs k d more) in
    let others : take k ys ++ y ∷ [] ≡ take (k + 1) ys =
    ap (λ (b : B). take k ys ++ b ∷ []) other ∙ sym (take_more ys k e (omega (arith, more, many))) in
    subst (λ (zs : List A). AllZip R zs (take (k + 1) ys)) fronts
    (subst (AllZip R (take k xs ++ x ∷ [])) others (all_zipped_more R (take k xs) (take k ys) x y before here))

-- What is shown holds

pub shown_not_negative : (r : Region) (f : Form) → ShowsNotNegative r f → Throughout r (λ point. pos 0 ≤ℤ value point f)
shown_not_negative r f (inl nowhere) = λ point is. nowhere point is.0
shown_not_negative r f (inr by) = λ point is.
    let guard = All-contains (λ g. pos 0 ≤ℤ value point g) r.guards by.0 is.1 by.1 in
    let above = by.2.1 point is.0 in
    let e = value_minus f by.0 point in
    omega (arith, ints, guard, above, e)

shown_above : (r : Region) (f g : Form) → ShowsAbove r f g → Throughout r (λ point. value point g ≤ℤ value point f)
shown_above r f g shown point is =
    let above = shown_not_negative r (minus_form f g) shown.1 point is in
    let e = value_minus f g point in
    omega (arith, ints, above, e)

shown_within : (r : Region) (f : Form) (range : Range) → ShowsWithin r f range → Throughout r (λ point. InRange range (value point f))
shown_within r f range shown point is =
    let low = shown_above r f (number range.0) shown.0 point is in
    let high = shown_above r (number range.1) f shown.1 point is in
    (subst (λ (n : ℤ). n ≤ℤ value point f) (value_number range.0 point) low, subst (λ (n : ℤ). value point f ≤ℤ n) (value_number range.1 point) high)

shown_in_box : (r : Region) (forms : List Form) (ranges : List Range) → AllZip (ShowsWithin r) forms ranges
    → Throughout r (λ point. InBox ranges (values point forms))
shown_in_box r [] [] shown point is = tt
shown_in_box r (f ∷ forms) (range ∷ ranges) shown point is =
    (shown_within r f range shown.0 point is, shown_in_box r forms ranges shown.1 point is)
shown_in_box r forms ranges shown point is = absurd shown

shown_none_below : (r : Region) (arguments least upper : List Form) → ShowsNoneBelow r arguments least upper
    → Throughout r (λ point. NoneBelow (values (values point arguments) least) (values point upper))
shown_none_below r arguments [] [] shown point is = tt
shown_none_below r arguments (g ∷ least) (f ∷ upper) shown point is = (
  subst (λ (n : ℤ). n ≤ℤ value point f) (value_substituted arguments g point) (shown_above r f (substituted arguments g) shown.0.1 point is),
  shown_none_below r arguments least upper shown.1 point is,
)
shown_none_below r arguments least upper shown point is = absurd shown

values_substituted : (arguments forms : List Form) (point : Point)
    → values (values point arguments) forms ≡ values point (map (substituted arguments) forms)
values_substituted arguments [] point = refl
values_substituted arguments (f ∷ forms) point =
    let here = sym (value_substituted arguments f point) in
    let rest = values_substituted arguments forms point in
    λ i. here i ∷ rest i

-- the values of the first forms are the first values, and so on
parts_of : (t : Target) (forms : List Form) (point : Point)
    → IsMetBy t (values point forms)
    ≡ IsMetAt t (values point (take (symbols_of t) forms))
    (values point (take (length t.least) (drop (symbols_of t) forms)))
    (values point (drop (length t.least) (drop (symbols_of t) forms)))
parts_of t forms point =
    let n = symbols_of t in
    let m = length t.least in
    let rest = drop-map (value point) n forms in
    let upper = ap (take m) rest ∙ take-map (value point) m (drop n forms) in
    let equal = ap (drop m) rest ∙ drop-map (value point) m (drop n forms) in
    λ i. IsMetAt t (take-map (value point) n forms i) (upper i) (equal i)

pub shown_met : (r : Region) (t : Target) (forms : List Form) → ShowsMetBy r t forms → Throughout r (at_values (IsMetBy t) forms)
shown_met r t forms shown point is =
    let symbols = take (symbols_of t) forms in
    let upper = take (length t.least) (drop (symbols_of t) forms) in
    subst (λ (X : Type 0). X) (sym (parts_of t forms point))
    (record {
      within = subst (InBox t.ranges) (sym (drop-map (value point) t.free symbols)) (shown_in_box r (drop t.free symbols) t.ranges shown.within point is);
      guards = λ k g more. subst (λ (n : ℤ). pos 0 ≤ℤ n) (value_substituted symbols (slice_index_or t.guards k g) point)
          (shown_not_negative r (substituted symbols (slice_index_or t.guards k g)) (shown.guards k g more).1 point is);
      least = shown_none_below r symbols t.least upper shown.least point is;
      same = values_substituted symbols t.same point ∙ ap (values point) shown.same;
    })

-- The parts that are tested

-- what is shown by the parts of a target, one after the other, by these forms in place of its own
abbrev pub FormsShown : Region → Target → (Form → Form) → List Form → List Form → Type 0
FormsShown r t made ranged equal = (map made t.same ≡ equal) × AllZip (ShowsWithin r) ranged t.ranges

abbrev pub GuardsShown : Region → Target → (Form → Form) → List Form → List Form → Type 0
GuardsShown r t made ranged equal =
    FormsShown r t made ranged equal × All (λ f. IsSmallForm (made f) × ShowsNotNegative r (made f)) t.guards

abbrev pub PartsShown : Region → Target → (Form → Form) → List Form → List Form → List Form → Type 0
PartsShown r t made ranged upper equal =
    GuardsShown r t made ranged equal × AllZip (λ f g. IsSmallForm (made g) × ShowsAbove r f (made g)) upper t.least

-- a test of these parts is one of the whole: they are cut from all the forms, and zeros stand after the symbols
pub met_by_parts : (r : Region) (t : Target) (forms symbols others ranged upper equal arguments : List Form) (shown : Bool)
    → symbols ≡ take (symbols_of t) forms → others ≡ drop (symbols_of t) forms → ranged ≡ drop t.free symbols
    → upper ≡ take (length t.least) others → equal ≡ drop (length t.least) others
    → substituted arguments ≡ substituted symbols
    → IsTrue shown ↔ PartsShown r t (substituted arguments) ranged upper equal → IsTrue shown ↔ ShowsMetBy r t forms
met_by_parts r t forms symbols others ranged upper equal arguments shown first rest after above same filled tells =
    let made = filled ∙ ap substituted first in
    let ranged_is = after ∙ ap (drop t.free) first in
    let upper_is = above ∙ ap (take (length t.least)) rest in
    let equal_is = same ∙ ap (drop (length t.least)) rest in
    let tells_whole = subst (λ (X : Type 0). IsTrue shown ↔ X) (λ i. PartsShown r t (made i) (ranged_is i) (upper_is i) (equal_is i)) tells in (
      λ yes. let parts = tells_whole.0 yes in record {
        within = parts.0.0.1;
        guards = parts.0.1;
        least = parts.1;
        same = parts.0.0.0;
      },
      λ met. tells_whole.1 (((met.same, met.within), met.guards), met.least),
    )
