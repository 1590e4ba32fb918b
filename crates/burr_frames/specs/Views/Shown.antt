-- What is shown of all points of a region at once, by forms that are negative nowhere in its box.
use Rattle.std.specs.Prelude.{◌≡◌, ◌⊎◌, ℤ, pos, ◌≤ℤ◌, List, length, All, Contains, take, drop, map}
use Rattle.std.specs.List.{AllZip}
use Rattle.burr_forms.specs.Rules.Conditions.{Region}
use Rattle.burr_forms.specs.Rules.Forms.{Form, Point, value, number, minus_form, substituted, IsSmallForm}
use Rattle.burr_forms.specs.Rules.Points.{InBox}
use Rattle.burr_container.specs.Rules.Plans.{Range}
use Rattle.burr_frames.specs.Views.Comparing.{Target, symbols_of}

-- the form is negative at no point of the box
abbrev pub IsNowhereNegative : List (ℤ × ℤ) → Form → Type 0
IsNowhereNegative ranges f = (point : Point) → InBox ranges point → pos 0 ≤ℤ value point f

-- what one form is above another one by is small enough for a form, and is so
abbrev pub IsAboveBy : (Form → Type 0) → Form → Form → Type 0
IsAboveBy P f g = IsSmallForm (minus_form f g) × P (minus_form f g)

-- the form with arguments in place of its symbols is small enough for a form, and is so
abbrev pub IsWith : List Form → (Form → Type 0) → Form → Type 0
IsWith arguments P f = IsSmallForm (substituted arguments f) × P (substituted arguments f)

-- Shown in a region

-- that a form is not negative: it is so in the whole box, or it is nowhere there below a guard
abbrev pub ShowsNotNegative : Region → Form → Type 0
ShowsNotNegative r f =
    IsNowhereNegative r.ranges f
    ⊎ ((guard : Form) × Contains r.guards guard
    × IsAboveBy (IsNowhereNegative r.ranges) f guard)

-- that a form is not below another one
abbrev pub ShowsAbove : Region → Form → Form → Type 0
ShowsAbove r f g = IsAboveBy (ShowsNotNegative r) f g

-- that a form stays in a range
abbrev pub ShowsWithin : Region → Form → Range → Type 0
ShowsWithin r f range = ShowsAbove r f (number range.0) × ShowsAbove r (number range.1) f

-- that guards hold of arguments
abbrev pub ShowsGuards : Region → List Form → List Form → Type 0
ShowsGuards r arguments guards = All (IsWith arguments (ShowsNotNegative r)) guards

-- that forms are not below others of arguments, one by one
abbrev pub ShowsNoneBelow : Region → List Form → List Form → List Form → Type 0
ShowsNoneBelow r arguments least upper =
    AllZip (λ f g. IsWith arguments (ShowsAbove r f) g) upper least

-- that a target is met where its symbols are these forms, by these others
pub record ShowsMetAt (r : Region) (t : Target) (symbols upper equal : List Form) : Type 0 where
  pub within : AllZip (ShowsWithin r) (drop t.free symbols) t.ranges
  pub guards : ShowsGuards r symbols t.guards
  pub least : ShowsNoneBelow r symbols t.least upper
  pub same : map (substituted symbols) t.same ≡ equal

-- that it is met by all of these forms, one after the other
abbrev pub ShowsMetBy : Region → Target → List Form → Type 0
ShowsMetBy r t forms =
    ShowsMetAt r t (take (symbols_of t) forms)
    (take (length t.least) (drop (symbols_of t) forms))
    (drop (length t.least) (drop (symbols_of t) forms))
