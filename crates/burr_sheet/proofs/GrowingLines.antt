-- How a growing line and a motion come together.
use Rattle.std.proofs.Common.{◌≡◌, ℕ, ◌+◌, ◌==◌, ◌&&◌, not, List, [], ◌∷◌, Bool, true, false, Some, refl, sym, ap, ◌∙◌, zero-add, add-zero, add_comm, add_assoc, arith}
use Rattle.std.proofs.lemmas.Bool.{and_parts, eqb-true}
use Rattle.burr_voxels.specs.declared.direction.Direction.{Direction}
use Rattle.burr_voxels.specs.Grid.{number_of}
use Rattle.burr_state.specs.declared.effect.Motion.{Motion}
use Rattle.burr_sheet.specs.Rules.SheetText.{MoveLine, alone, goes_onto, with_motion, is_one}
use Rattle.burr_sheet.specs.Views.SheetUnderWay.{with_growing}

-- no two directions have one number
pub same_direction : (d e : Direction) → number_of d ≡ number_of e → d ≡ e
same_direction d e same = grind arith

-- one group in one tray along one direction
pub record Alike (g h : MoveLine) : Type 0 where
  pub group : g.group ≡ h.group
  pub tray : g.tray ≡ h.tray
  pub direction : g.direction ≡ h.direction

pub Alike-from_one : (g h : MoveLine) → is_one g h ≡ true → Alike g h
Alike-from_one g h is =
    let direction = and_parts ((g.group == h.group) && (g.tray == h.tray)) (number_of g.direction == number_of h.direction) is in
    let place = and_parts (g.group == h.group) (g.tray == h.tray) direction.0 in
    record {
      group = eqb-true _ _ place.0;
      tray = eqb-true _ _ place.1;
      direction = same_direction _ _ (eqb-true _ _ direction.1);
    }

pub same_number : (n : ℕ) → (n == n) ≡ true
same_number n = grind arith

-- a line is one with itself, however long
pub is_one-own : (l : MoveLine) (units : ℕ) (out : Bool) → is_one (record l { units = units; out = out }) l ≡ true
is_one-own l units out = rw (same_number l.group, same_number l.tray, same_number (number_of l.direction)) refl

-- lines that are alike are one with the same lines
is_one-alike : (g h l : MoveLine) → Alike g h → is_one g l ≡ is_one h l
is_one-alike g h l alike = rw (alike.group, alike.tray, alike.direction)

is_one-alike_after : (g h l : MoveLine) → Alike h l → is_one g l ≡ is_one g h
is_one-alike_after g h l alike = rw (alike.group, alike.tray, alike.direction)

pub goes_onto-step : (m : Motion) (l : MoveLine) → m.out ≡ false → goes_onto m l ≡ is_one (alone m) l
goes_onto-step m l step = rw step

goes_onto-out : (m : Motion) (l : MoveLine) → m.out ≡ true → goes_onto m l ≡ false
goes_onto-out m l out = rw out

pub goes_onto-alike : (m : Motion) (l : MoveLine) → goes_onto m l ≡ true → Alike (alone m) l
goes_onto-alike m l is =
    let direction = and_parts (not m.out && (m.group == l.group) && (m.tray == l.tray)) (number_of m.dir == number_of l.direction) is in
    let tray = and_parts (not m.out && (m.group == l.group)) (m.tray == l.tray) direction.0 in
    record {
      group = eqb-true _ _ (and_parts (not m.out) (m.group == l.group) tray.0).1;
      tray = eqb-true _ _ tray.1;
      direction = same_direction _ _ (eqb-true _ _ direction.1);
    }

-- the first of these lines is of the motion's group, tray and direction
record Begins (m : Motion) (lines : List MoveLine) : Type 0 where
  head : MoveLine
  tail : List MoveLine
  parts : lines ≡ head ∷ tail
  alike : Alike (alone m) head

Alike-refl : (g : MoveLine) → Alike g g
Alike-refl g = record { group = refl; tray = refl; direction = refl }

pub with_motion-joined : (m : Motion) (l : MoveLine) (ls : List MoveLine) → goes_onto m l ≡ true → with_motion m (l ∷ ls) ≡ record l { units = l.units + 1 } ∷ ls
with_motion-joined m l ls is = rw is

pub with_motion-apart : (m : Motion) (l : MoveLine) (ls : List MoveLine) → goes_onto m l ≡ false → with_motion m (l ∷ ls) ≡ alone m ∷ l ∷ ls
with_motion-apart m l ls is = rw is

begins_by : (m : Motion) (l : MoveLine) (ls : List MoveLine) (test : Bool) → goes_onto m l ≡ test → Begins m (with_motion m (l ∷ ls))
begins_by m l ls true is =
    let alike = goes_onto-alike m l is in
    record {
      head = record l { units = l.units + 1 };
      tail = ls;
      parts = with_motion-joined m l ls is;
      alike = record { group = alike.group; tray = alike.tray; direction = alike.direction };
    }
begins_by m l ls false is = record { head = alone m; tail = l ∷ ls; parts = with_motion-apart m l ls is; alike = Alike-refl (alone m) }

begins : (m : Motion) (lines : List MoveLine) → Begins m (with_motion m lines)
begins m [] = record { head = alone m; tail = []; parts = refl; alike = Alike-refl (alone m) }
begins m (l ∷ ls) = begins_by m l ls (goes_onto m l) refl

-- a line that the motion doesn't go on stands by itself
pub with_growing-other : (g : MoveLine) (m : Motion) (lines : List MoveLine) → is_one g (alone m) ≡ false → with_growing (Some g) (with_motion m lines) ≡ g ∷ with_motion m lines
with_growing-other g m lines other =
    let b = begins m lines in
    rw (b.parts, is_one-alike_after g (alone m) b.head b.alike ∙ other)

-- a line of no steps that the motion goes on is seen by its steps alone
pub with_growing-fresh : (g : MoveLine) (m : Motion) (lines : List MoveLine) → is_one g (alone m) ≡ true → g.units ≡ 0 → with_growing (Some g) (with_motion m lines) ≡ with_motion m lines
with_growing-fresh g m lines one none =
    let b = begins m lines in
    rw (b.parts, is_one-alike_after g (alone m) b.head b.alike ∙ one, none, zero-add)

-- the line with one step more, told by the motion
longer : (g : MoveLine) (m : Motion) → is_one g (alone m) ≡ true → m.out ≡ false → g.out ≡ false → record (alone m) { units = g.units + (alone m).units } ≡ record g { units = g.units + 1 }
longer g m one step goes = let alike = Alike-from_one g (alone m) one in rw (step, goes, alike.group, alike.tray, alike.direction)

-- the line with its aside, told by the motion
ended : (g : MoveLine) (m : Motion) → is_one g (alone m) ≡ true → m.out ≡ true → record (alone m) { units = g.units + (alone m).units } ≡ record g { out = true }
ended g m one out = let alike = Alike-from_one g (alone m) one in rw (out, add-zero, alike.group, alike.tray, alike.direction)

longer_by : (g : MoveLine) (m : Motion) (l : MoveLine) (ls : List MoveLine) (test : Bool) → goes_onto m l ≡ test → is_one g (alone m) ≡ true → m.out ≡ false → g.out ≡ false
    → with_growing (Some g) (with_motion m (l ∷ ls)) ≡ with_growing (Some (record g { units = g.units + 1 })) (l ∷ ls)
longer_by g m l ls true is one step goes =
    let same : is_one g l ≡ true = is_one-alike g (alone m) l (Alike-from_one g (alone m) one) ∙ sym (goes_onto-step m l step) ∙ is in
    rw (with_motion-joined m l ls is, same, ap (λ n. g.units + n) (add_comm l.units 1), sym (add_assoc g.units 1 l.units))
longer_by g m l ls false is one step goes =
    let same : is_one g l ≡ false = is_one-alike g (alone m) l (Alike-from_one g (alone m) one) ∙ sym (goes_onto-step m l step) ∙ is in
    rw (with_motion-apart m l ls is, one, same) (ap (λ h. h ∷ l ∷ ls) (longer g m one step goes))

-- a step that goes on the growing line makes it longer
pub with_growing-longer : (g : MoveLine) (m : Motion) (lines : List MoveLine) → is_one g (alone m) ≡ true → m.out ≡ false → g.out ≡ false
    → with_growing (Some g) (with_motion m lines) ≡ with_growing (Some (record g { units = g.units + 1 })) lines
with_growing-longer g m [] one step goes = rw one (ap (λ h. h ∷ []) (longer g m one step goes))
with_growing-longer g m (l ∷ ls) one step goes = longer_by g m l ls (goes_onto m l) refl one step goes

pub with_motion-out : (m : Motion) (lines : List MoveLine) → m.out ≡ true → with_motion m lines ≡ alone m ∷ lines
with_motion-out m [] out = refl
with_motion-out m (l ∷ ls) out = with_motion-apart m l ls (goes_onto-out m l out)

-- an aside that goes on the growing line ends it
pub with_growing-ended : (g : MoveLine) (m : Motion) (lines : List MoveLine) → is_one g (alone m) ≡ true → m.out ≡ true
    → with_growing (Some g) (with_motion m lines) ≡ record g { out = true } ∷ lines
with_growing-ended g m lines one out = rw (with_motion-out m lines out, one) (ap (λ h. h ∷ lines) (ended g m one out))
