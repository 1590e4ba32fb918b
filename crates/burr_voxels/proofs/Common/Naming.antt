-- For crates above: what the names of directions and of orientations stand for.
use Rattle.std.proofs.Common.{◌≡◌, ◌≢◌, ℕ, List, ◌++◌, take, drop, Option, Some, None, MatchOption, refl, ap, sym, ◌∙◌, arith}
use Rattle.std.proofs.lemmas.List.{take-append-drop}
use Rattle.burr_voxels.specs.declared.direction.Direction.{Direction}
use Rattle.burr_voxels.specs.declared.direction.Direction.TheVariants.{PlusX, MinusX, PlusY, MinusY, PlusZ, MinusZ}
use Rattle.burr_voxels.specs.declared.direction.Orientation.{Orientation}
use Rattle.burr_voxels.specs.Grid.{name_of}
use Rattle.burr_voxels.specs.Turns.{axes_name, IsRotation}

-- no two directions have one name
same_direction : (d e : Direction) → name_of d ≡ name_of e → d ≡ e
same_direction d e h = grind arith

-- a name is the first two bytes
name_first : (d : Direction) (s : List ℕ) → take 2 (name_of d ++ s) ≡ name_of d
name_first PlusX s = refl
name_first MinusX s = refl
name_first PlusY s = refl
name_first MinusY s = refl
name_first PlusZ s = refl
name_first MinusZ s = refl

-- what follows a name is the other bytes
name_rest : (d : Direction) (s : List ℕ) → drop 2 (name_of d ++ s) ≡ s
name_rest PlusX s = refl
name_rest MinusX s = refl
name_rest PlusY s = refl
name_rest MinusY s = refl
name_rest PlusZ s = refl
name_rest MinusZ s = refl

-- bytes that begin with a name begin with no other, and go on alike
first_name : (d e : Direction) (s t : List ℕ) → name_of d ++ s ≡ name_of e ++ t → (d ≡ e) × (s ≡ t)
first_name d e s t h = (
  same_direction d e (sym (name_first d s) ∙ ap (take 2) h ∙ name_first e t),
  sym (name_rest d s) ∙ ap (drop 2) h ∙ name_rest e t,
)

-- no two orientations have one name
pub same_axes : (x y z a b c : Direction) → axes_name x y z ≡ axes_name a b c → (x ≡ a) × (y ≡ b) × (z ≡ c)
same_axes x y z a b c h =
    let in_x = first_name x a (name_of y ++ name_of z) (name_of b ++ name_of c) h in
    let in_y = first_name y b (name_of z) (name_of c) in_x.1 in
    (in_x.0, in_y.0, same_direction z c in_y.1)

-- three names read one after the other
pub axes_read : (x y z : Direction) (name rest : List ℕ) → name_of x ≡ take 2 name → rest ≡ drop 2 name → name_of y ≡ take 2 rest → name_of z ≡ drop 2 rest → axes_name x y z ≡ name
axes_read x y z name rest in_x is in_y in_z = rw (in_x, in_y, in_z, take-append-drop 2 rest, is, take-append-drop 2 name)

-- the orientation with a name is the one whose images the name spells; where no orientation has these images, none has the name
pub named_by : (x y z : Direction) (name : List ℕ) (found : Option Orientation) → axes_name x y z ≡ name → MatchOption found (¬ IsRotation x y z) (λ o. (o.x ≡ x) × (o.y ≡ y) × (o.z ≡ z)) → MatchOption found ((a b c : Direction) → IsRotation a b c → axes_name a b c ≢ name) (λ o. axes_name o.x o.y o.z ≡ name)
named_by x y z name None is none = λ a b c r same.
    let all = same_axes a b c x y z (same ∙ sym is) in
    none (rw (← all.0, ← all.1, ← all.2) r)
named_by x y z name (Some o) is some = rw (some.0, some.1, some.2) is
