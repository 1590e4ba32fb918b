-- Lists that are compared element by element.
use Rattle.std.proofs.Common.{◌≡◌, ℕ, zero, suc, ◌+◌, ◌<◌, List, [], ◌∷◌, ◌++◌, length, take, map, refl, sym, ap, subst, ◌∙◌, arith, slice_index_or, true, false, ℤ}
use Rattle.std.specs.Prelude.{pos, ◌≤ℤ◌, int_lt, Option, Some, None, not, Bool, eqb}
use Rattle.std.specs.Option.{option_eq}
use Rattle.std.proofs.lemmas.Int.{ints}
use Rattle.std.proofs.lemmas.List.{take_more, map_more, get_or-map, length-map}
use Rattle.burr_code.specs.declared.placement.Placement.{Placement}
use Rattle.burr_code.specs.Places.{tray_of}
use Rattle.burr_forms.specs.Rules.Forms.{Form, Point, value, values, IsNear}
use Rattle.burr_forms.specs.Rules.Points.{IsRange, InRange, InBox}
use Rattle.burr_container.specs.Rules.Plans.{FormCell}
use Rattle.burr_frames.specs.Views.Comparing.{NoneBelow}

-- None below

none_below_at : (xs ys : List ℤ) (k : ℕ) → NoneBelow xs ys → k < length xs
    → slice_index_or xs k (pos 0) ≤ℤ slice_index_or ys k (pos 0)
none_below_at (x ∷ xs) (y ∷ ys) zero n l = n.0
none_below_at (x ∷ xs) (y ∷ ys) (suc k) n l = none_below_at xs ys k n.1 (omega (arith, l))
none_below_at xs ys k n l = absurd (grind (arith, n, l))

-- a number that is below its form's value
pub one_below : (point : Point) (forms : List Form) (numbers : List ℤ) (k : ℕ) (f : Form) (v : ℤ) → k < length forms
    → f ≡ slice_index_or forms k f → v ≡ value point f → int_lt (slice_index_or numbers k (pos 0)) v ≡ true
    → ¬ NoneBelow (values point forms) numbers
one_below point forms numbers k f v l e is less none =
    let there = none_below_at (values point forms) numbers k none (omega (arith, length-map forms (value point), l)) in
    let at : slice_index_or (values point forms) k (pos 0) ≡ v = get_or-map (value point) forms k f (pos 0) l ∙ ap (value point) (sym e) ∙ sym is in
    omega (arith, ints, there, at, less)

none_below_push : (xs ys : List ℤ) (x y : ℤ) → NoneBelow xs ys → x ≤ℤ y → NoneBelow (xs ++ x ∷ []) (ys ++ y ∷ [])
none_below_push [] [] x y n l = (l, tt)
none_below_push (a ∷ xs) (b ∷ ys) x y n l = (n.0, none_below_push xs ys x y n.1 l)
none_below_push xs ys x y n l = absurd n

-- number k is not below, and none of those before it
pub none_below_more : (point : Point) (forms : List Form) (numbers : List ℤ) (k : ℕ) (f : Form) (v : ℤ) → k < length forms
    → length numbers ≡ length forms → f ≡ slice_index_or forms k f → v ≡ value point f
    → v ≤ℤ slice_index_or numbers k (pos 0) → NoneBelow (values point (take k forms)) (take k numbers)
    → NoneBelow (values point (take (k + 1) forms)) (take (k + 1) numbers)
none_below_more point forms numbers k f v l same e is above none =
    let number : ℤ = slice_index_or numbers k (pos 0) in
    let after = none_below_push (values point (take k forms)) (take k numbers) v number none above in
    let fronts : values point (take (k + 1) forms) ≡ values point (take k forms) ++ v ∷ [] =
    map_more (value point) forms k f l ∙ ap (λ w. values point (take k forms) ++ w ∷ []) (ap (value point) (sym e) ∙ sym is) in
    subst (λ (xs : List ℤ). NoneBelow xs (take (k + 1) numbers)) (sym fronts)
    (subst (NoneBelow (values point (take k forms) ++ v ∷ [])) (sym (take_more numbers k (pos 0) (omega (arith, same, l)))) after)

-- Values

-- a number that is not its form's value
pub one_unlike : (point : Point) (forms : List Form) (numbers : List ℤ) (k : ℕ) (f : Form) (v : ℤ) → k < length forms
    → f ≡ slice_index_or forms k f → v ≡ value point f → (¬ (slice_index_or numbers k (pos 0) ≡ v))
    → ¬ (values point forms ≡ numbers)
one_unlike point forms numbers k f v l e is unlike same =
    unlike
    (sym (ap (λ (xs : List ℤ). slice_index_or xs k (pos 0)) same) ∙ get_or-map (value point) forms k f (pos 0) l
    ∙ ap (value point) (sym e) ∙ sym is)

-- number k is its form's value, and so are those before it
pub values_more : (point : Point) (forms : List Form) (numbers : List ℤ) (k : ℕ) (f : Form) (v : ℤ) → k < length forms
    → length numbers ≡ length forms → f ≡ slice_index_or forms k f → v ≡ value point f → slice_index_or numbers k (pos 0) ≡ v
    → values point (take k forms) ≡ take k numbers → values point (take (k + 1) forms) ≡ take (k + 1) numbers
values_more point forms numbers k f v l same e is here before =
    let last : value point (slice_index_or forms k f) ≡ slice_index_or numbers k (pos 0) =
    ap (value point) (sym e) ∙ sym is ∙ sym here in
    map_more (value point) forms k f l ∙ (λ i. before i ++ last i ∷ [])
    ∙ sym (take_more numbers k (pos 0) (omega (arith, same, l)))

-- Boxes

in_range_at : (ranges : List (ℤ × ℤ)) (numbers : List ℤ) (k : ℕ) (d : ℤ × ℤ) → InBox ranges numbers → k < length ranges
    → InRange (slice_index_or ranges k d) (slice_index_or numbers k (pos 0))
in_range_at (range ∷ ranges) (x ∷ numbers) zero d b l = b.0
in_range_at (range ∷ ranges) (x ∷ numbers) (suc k) d b l = in_range_at ranges numbers k d b.1 (omega (arith, l))
in_range_at ranges numbers k d b l = absurd (grind (arith, b, l))

-- a number that is not in its range
pub one_outside : (ranges : List (ℤ × ℤ)) (numbers : List ℤ) (k : ℕ) (d : ℤ × ℤ) → k < length ranges
    → (¬ InRange (slice_index_or ranges k d) (slice_index_or numbers k (pos 0))) → ¬ InBox ranges numbers
one_outside ranges numbers k d l outside b = outside (in_range_at ranges numbers k d b l)

in_box_push : (ranges : List (ℤ × ℤ)) (numbers : List ℤ) (range : ℤ × ℤ) (x : ℤ) → InBox ranges numbers → InRange range x
    → InBox (ranges ++ range ∷ []) (numbers ++ x ∷ [])
in_box_push [] [] range x b i = (i, tt)
in_box_push [] (y ∷ numbers) range x b i = absurd b
in_box_push (r ∷ ranges) [] range x b i = absurd b
in_box_push (r ∷ ranges) (y ∷ numbers) range x b i = (b.0, in_box_push ranges numbers range x b.1 i)

-- a number in a range of numbers of a code is one of a code
pub near_in_range : (range : ℤ × ℤ) (x : ℤ) → IsRange range → InRange range x → IsNear x
near_in_range range x is i = omega (arith, ints, is.low, is.high, i.0, i.1)

-- number k is in its range, and those before it
pub in_box_more : (ranges : List (ℤ × ℤ)) (numbers : List ℤ) (k : ℕ) (d : ℤ × ℤ) → k < length ranges
    → length numbers ≡ length ranges → InRange (slice_index_or ranges k d) (slice_index_or numbers k (pos 0))
    → InBox (take k ranges) (take k numbers) → InBox (take (k + 1) ranges) (take (k + 1) numbers)
in_box_more ranges numbers k d l same i b =
    let after = in_box_push (take k ranges) (take k numbers) (slice_index_or ranges k d) (slice_index_or numbers k (pos 0)) b i in
    subst (λ (rs : List (ℤ × ℤ)). InBox rs (take (k + 1) numbers)) (sym (take_more ranges k d l))
    (subst (InBox (take k ranges ++ slice_index_or ranges k d ∷ [])) (sym (take_more numbers k (pos 0) (omega (arith, same, l)))) after)

-- Trays

same_itself : (a : Option ℕ) → option_eq eqb a a ≡ true
same_itself None = refl
same_itself (Some n) = grind arith

-- trays that are not told to be the same
pub other_trays : (a b : Option ℕ) → true ≡ not (option_eq eqb a b) → ¬ (a ≡ b)
other_trays a b unlike same = differ (option_eq eqb a b) unlike (subst (λ c. option_eq eqb a c ≡ true) same (same_itself a))
  where
    differ : (t : Bool) → true ≡ not t → t ≡ true → ⊥
    differ true e f = grind arith
    differ false e f = grind arith

-- a piece that is in another tray
pub one_elsewhere : (places others : List (Placement FormCell)) (k : ℕ) (a b : Placement FormCell) → k < length places
    → length places ≡ length others → a ≡ slice_index_or places k a → b ≡ slice_index_or others k b
    → true ≡ not (option_eq eqb (tray_of a) (tray_of b)) → ¬ (map tray_of places ≡ map tray_of others)
one_elsewhere places others k a b l same e f unlike is =
    other_trays (tray_of a) (tray_of b) unlike
    (ap tray_of e ∙ sym (get_or-map tray_of places k a None l)
    ∙ ap (λ (trays : List (Option ℕ)). slice_index_or trays k None) is
    ∙ get_or-map tray_of others k b None (omega (arith, same, l)) ∙ ap tray_of (sym f))
