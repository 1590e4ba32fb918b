-- Values of a state's forms beside those of the forms of a frame or an exit frame, where its
-- symbols have the values that come first.
use Rattle.std.specs.Prelude.{◌≡◌, ◌+◌, ℕ, ℤ, ◌≤ℤ◌, List, [], ◌∷◌, length, take, drop}
use Rattle.burr_code.specs.declared.placement.Placement.{Placement}
use Rattle.burr_code.specs.declared.placement.Placement.TheVariants.{Apart, On}
use Rattle.burr_forms.specs.Rules.Forms.{Form, values}
use Rattle.burr_forms.specs.Rules.Points.{InBox, GuardsHold}
use Rattle.burr_container.specs.Rules.Plans.{FormCell, Range}

-- the forms of the offsets, piece by piece
abbrev pub offset_forms : List (Placement FormCell) → List Form
offset_forms [] = []
offset_forms (Apart ∷ places) = offset_forms places
offset_forms (On tray c ∷ places) = c.x ∷ c.y ∷ c.z ∷ offset_forms places

-- What a list of values is compared with. The first values are those of symbols: of `free` symbols
-- that nothing bounds, and then of one symbol for each of `ranges`, within it. At these symbols the
-- forms of `guards` are not negative, those of `least` are at most the values that come next in the
-- list, and those of `same` are the values after these.
pub record Target : Type 0 where
  pub free : ℕ
  pub ranges : List Range
  pub guards : List Form
  pub least : List Form
  pub same : List Form

-- how many symbols there are
abbrev pub symbols_of : Target → ℕ
symbols_of t = t.free + length t.ranges

-- number by number, the second list is not below the first one
abbrev pub NoneBelow : List ℤ → List ℤ → Type 0
NoneBelow [] [] = Unit {0}
NoneBelow [] (y ∷ ys) = ⊥
NoneBelow (x ∷ xs) [] = ⊥
NoneBelow (x ∷ xs) (y ∷ ys) = (x ≤ℤ y) × NoneBelow xs ys

-- the target is met where its symbols have these values, by these others
pub record IsMetAt (t : Target) (symbols upper equal : List ℤ) : Type 0 where
  pub within : InBox t.ranges (drop t.free symbols)
  pub guards : GuardsHold t.guards symbols
  pub least : NoneBelow (values symbols t.least) upper
  pub same : values symbols t.same ≡ equal

-- the target is met by all of these values, one after the other
abbrev pub IsMetBy : Target → List ℤ → Type 0
IsMetBy t numbers =
    IsMetAt t (take (symbols_of t) numbers)
    (take (length t.least) (drop (symbols_of t) numbers))
    (drop (length t.least) (drop (symbols_of t) numbers))
