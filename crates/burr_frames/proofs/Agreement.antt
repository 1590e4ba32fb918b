-- Values of a state's forms, one after the other, beside those of another state's.
use Rattle.std.proofs.Common.{◌≡◌, ℕ, suc, List, [], ◌∷◌, ◌++◌, length, take, drop, map, refl, sym, ap, subst, ◌∙◌, ℤ, arith}
use Rattle.std.specs.Prelude.{⊤, reverse, Result, Ok, Err}
use Rattle.std.proofs.lemmas.List.{length-map, length-reverse, map-append, reverse-reverse, reverse-append, take_at, drop_at}
use Rattle.burr_voxels.specs.declared.cell.Cell.{Cell}
use Rattle.burr_voxels.specs.Grid.{at}
use Rattle.burr_code.specs.declared.placement.Placement.{Placement}
use Rattle.burr_code.specs.declared.placement.Placement.TheVariants.{Apart, On}
use Rattle.burr_code.specs.Places.{tray_of}
use Rattle.burr_forms.specs.Rules.Forms.{Form, Point, value, values}
use Rattle.burr_forms.specs.Rules.Conditions.{Region, at_values}
use Rattle.burr_container.specs.Rules.Plans.{FormCell, Range}
use Rattle.burr_frames.specs.Rules.States.{AbstractState, region_of, cell_at, places_at}
use Rattle.burr_frames.specs.Rules.Arrival.{IsAlike}
use Rattle.burr_frames.specs.Views.Comparing.{offset_forms, Target, symbols_of, IsMetAt, IsMetBy}
use Rattle.burr_frames.specs.Views.ArrivalViews.{AgreesAbove, HoldsOrMisses}
use Rattle.burr_frames.specs.declared.state.meeting.Miss.{Miss}

-- Cutting

same_parts : {A : Type 0} (xs ys zs ws : List A) → length xs ≡ length zs → xs ++ ys ≡ zs ++ ws → (xs ≡ zs) × (ys ≡ ws)
same_parts xs ys zs ws l e = (
  sym (take_at xs ys (length zs) l) ∙ ap (take (length zs)) e ∙ take_at zs ws (length zs) refl,
  sym (drop_at xs ys (length zs) l) ∙ ap (drop (length zs)) e ∙ drop_at zs ws (length zs) refl,
)

-- Operands

values_reversed : (point : Point) (forms : List Form) → values point (reverse forms) ≡ reverse (values point forms)
values_reversed point [] = refl
values_reversed point (f ∷ forms) =
    ap (values point) (reverse-append (f ∷ []) forms) ∙ map-append (value point) (reverse forms) (f ∷ [])
    ∙ ap (λ (vs : List ℤ). vs ++ value point f ∷ []) (values_reversed point forms)
    ∙ sym (reverse-append (value point f ∷ []) (values point forms))

same_operands : (point there : Point) (xs ys : List Form) → values there (reverse ys) ≡ values point (reverse xs)
    → values point xs ≡ values there ys
same_operands point there xs ys e =
    sym (reverse-reverse (values point xs))
    ∙ ap reverse (sym (values_reversed point xs) ∙ sym e ∙ values_reversed there ys)
    ∙ reverse-reverse (values there ys)

reversed_operands : (point there : Point) (xs ys : List Form) → values point xs ≡ values there ys
    → values there (reverse ys) ≡ values point (reverse xs)
reversed_operands point there xs ys e = values_reversed there ys ∙ ap reverse (sym e) ∙ sym (values_reversed point xs)

-- Places

pub as_many : (xs ys : List (Placement FormCell)) → map tray_of xs ≡ map tray_of ys
    → length (offset_forms xs) ≡ length (offset_forms ys)
as_many [] [] trays = refl
as_many (Apart ∷ xs) (Apart ∷ ys) trays = as_many xs ys (cc)
as_many (On t c ∷ xs) (On u d ∷ ys) trays = ap (λ (n : ℕ). suc (suc (suc n))) (as_many xs ys (cc))
as_many xs ys trays = cc

pub same_places : (point there : Point) (xs ys : List (Placement FormCell)) → map tray_of xs ≡ map tray_of ys
    → values there (offset_forms ys) ≡ values point (offset_forms xs) → places_at point xs ≡ places_at there ys
same_places point there [] [] trays e = refl
same_places point there (Apart ∷ xs) (Apart ∷ ys) trays e =
    ap (λ (places : List (Placement Cell)). Apart ∷ places) (same_places point there xs ys (cc) e)
same_places point there (On t c ∷ xs) (On u d ∷ ys) trays e =
    let tray : t ≡ u = cc in
    let x : value point c.x ≡ value there d.x = cc in
    let y : value point c.y ≡ value there d.y = cc in
    let z : value point c.z ≡ value there d.z = cc in
    let after = same_places point there xs ys (cc) (cc) in
    λ i. On (tray i) (at (x i) (y i) (z i)) ∷ after i
same_places point there xs ys trays e = cc

pub same_offsets : (point there : Point) (xs ys : List (Placement FormCell)) → map tray_of xs ≡ map tray_of ys
    → places_at point xs ≡ places_at there ys → values there (offset_forms ys) ≡ values point (offset_forms xs)
same_offsets point there [] [] trays e = refl
same_offsets point there (Apart ∷ xs) (Apart ∷ ys) trays e = same_offsets point there xs ys (cc) (cc)
same_offsets point there (On t c ∷ xs) (On u d ∷ ys) trays e =
    let cell : cell_at there d ≡ cell_at point c = cc in
    let after = same_offsets point there xs ys (cc) (cc) in
    λ i. (cell i).x ∷ (cell i).y ∷ (cell i).z ∷ after i
same_offsets point there xs ys trays e = cc

-- The comparison

-- the values are those of the symbols, those that others are not to be above, and those that are the
-- same
pub parts_met : (t : Target) (symbols upper same : List Form) (point : Point) → length symbols ≡ symbols_of t
    → length upper ≡ length t.least
    → IsMetBy t (values point (symbols ++ (upper ++ same)))
    ≡ IsMetAt t (values point symbols) (values point upper) (values point same)
parts_met t symbols upper same point many rows =
    let others = values point (upper ++ same) in
    let whole = map-append (value point) symbols (upper ++ same) in
    let l = length-map symbols (value point) ∙ many in
    let first = ap (take (symbols_of t)) whole ∙ take_at (values point symbols) others (symbols_of t) l in
    let others_are = map-append (value point) upper same in
    let after = ap (drop (symbols_of t)) whole ∙ drop_at (values point symbols) others (symbols_of t) l ∙ others_are in
    let m = length-map upper (value point) ∙ rows in
    let second = ap (take (length t.least)) after ∙ take_at (values point upper) (values point same) (length t.least) m in
    let third = ap (drop (length t.least)) after ∙ drop_at (values point upper) (values point same) (length t.least) m in
    λ i. IsMetAt t (first i) (second i) (third i)

-- what is judged of a condition is judged of one that holds at the same points
pub judged_of_same : (r : Region) (P Q : Point → Type 0) → ((point : Point) → P point → Q point)
    → ((point : Point) → Q point → P point) → (result : Result ⊤ Miss) → HoldsOrMisses r P result → HoldsOrMisses r Q result
judged_of_same r P Q there back (Ok _) h = λ point is. there point (h point is)
judged_of_same r P Q there back (Err miss) (point, first, is) = (
  point,
  record {
    is_point = first.is_point;
    fails = λ holds. first.fails (back point holds);
    before = λ q is before. there q (first.before q is before);
  },
  is,
)

-- States

-- what a state is compared by, and what with another one
abbrev pub asked_of : AbstractState → List Form → List Form → List Form
asked_of s forms upper = forms ++ (upper ++ (reverse s.operands ++ offset_forms s.places))

abbrev pub sought_in : AbstractState → List Form → Target
sought_in t least = record {
  free = 0;
  ranges = t.ranges;
  guards = t.guards;
  least = least;
  same = reverse t.operands ++ offset_forms t.places;
}

-- operands and offsets have the same values just where they agree
met_of_same : (s t : AbstractState) (point there : Point) → IsAlike s t
    → values there (reverse t.operands ++ offset_forms t.places) ≡ values point (reverse s.operands ++ offset_forms s.places)
    → (values point s.operands ≡ values there t.operands) × (places_at point s.places ≡ places_at there t.places)
met_of_same s t point there alike e =
    let os = values point (reverse s.operands) in
    let ot = values there (reverse t.operands) in
    let l : length ot ≡ length os =
    length-map (reverse t.operands) (value there) ∙ length-reverse t.operands ∙ sym alike.operands
    ∙ sym (length-reverse s.operands) ∙ sym (length-map (reverse s.operands) (value point)) in
    let parts =
    same_parts ot (values there (offset_forms t.places)) os (values point (offset_forms s.places)) l
    (sym (map-append (value there) (reverse t.operands) (offset_forms t.places)) ∙ e
    ∙ map-append (value point) (reverse s.operands) (offset_forms s.places)) in
    (same_operands point there s.operands t.operands parts.0, same_places point there s.places t.places alike.trays parts.1)

same_of_met : (s t : AbstractState) (point there : Point) → IsAlike s t
    → values point s.operands ≡ values there t.operands → places_at point s.places ≡ places_at there t.places
    → values there (reverse t.operands ++ offset_forms t.places) ≡ values point (reverse s.operands ++ offset_forms s.places)
same_of_met s t point there alike operands places =
    let first = reversed_operands point there s.operands t.operands operands in
    let second = same_offsets point there s.places t.places alike.trays places in
    map-append (value there) (reverse t.operands) (offset_forms t.places) ∙ (λ i. first i ++ second i)
    ∙ sym (map-append (value point) (reverse s.operands) (offset_forms s.places))

-- the values meet the other state just where the states agree
module _ (s t : AbstractState) (upper least forms : List Form) (alike : IsAlike s t) (many : length forms ≡ length t.ranges)
    (rows : length upper ≡ length least) where
  parts : (point : Point)
      → IsMetBy (sought_in t least) (values point (asked_of s forms upper))
      ≡ IsMetAt (sought_in t least) (values point forms) (values point upper)
      (values point (reverse s.operands ++ offset_forms s.places))
  parts point =
      parts_met (sought_in t least) forms upper (reverse s.operands ++ offset_forms s.places) point (omega (arith, many)) rows

  met_agrees : (point : Point) → IsMetBy (sought_in t least) (values point (asked_of s forms upper))
      → AgreesAbove s t upper least forms point
  met_agrees point met =
      let m = subst (λ (X : Type 0). X) (parts point) met in
      let same = met_of_same s t point (values point forms) alike m.same in
      (record { is_point = (m.within, m.guards); operands = same.0; places = same.1 }, m.least)

  agrees_met : (point : Point) → AgreesAbove s t upper least forms point
      → IsMetBy (sought_in t least) (values point (asked_of s forms upper))
  agrees_met point a =
      subst (λ (X : Type 0). X) (sym (parts point))
      (record {
        within = a.0.is_point.0;
        guards = a.0.is_point.1;
        least = a.1;
        same = same_of_met s t point (values point forms) alike a.0.operands a.0.places;
      })

  pub judged_agreement : (result : Result ⊤ Miss) (r : Region) (ranges : List Range) (guards same asked : List Form) → r ≡ region_of s
      → ranges ≡ t.ranges → guards ≡ t.guards → same ≡ reverse t.operands ++ offset_forms t.places → asked ≡ asked_of s forms upper
      → HoldsOrMisses r (at_values (IsMetBy (record { free = 0; ranges = ranges; guards = guards; least = least; same = same })) asked) result
      → HoldsOrMisses (region_of s) (AgreesAbove s t upper least forms) result
  judged_agreement result r ranges guards same asked region_is ranges_are guards_are same_are asked_are judged =
      judged_of_same (region_of s) (at_values (IsMetBy (sought_in t least)) (asked_of s forms upper))
      (AgreesAbove s t upper least forms) met_agrees agrees_met result
      (subst (λ (X : Type 0). X) (λ i. HoldsOrMisses (region_is i) (at_values (IsMetBy (record {
        free = 0;
        ranges = ranges_are i;
        guards = guards_are i;
        least = least;
        same = same_are i;
      })) (asked_are i)) result) judged)
