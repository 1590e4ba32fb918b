-- For crates above: lines and the motions that they stand for give each other back.
use Rattle.std.proofs.Common.{◌≡◌, ◌≢◌, ℕ, zero, suc, ◌+◌, ◌<◌, ◌≤◌, List, [], ◌∷◌, ◌++◌, length, replicate, if◌then◌else◌, Bool, true, false, not, ◌&&◌, ◌==◌, All, refl, sym, ap, subst, ◌∙◌, length-append, arith}
use Rattle.std.proofs.lemmas.List.{length-replicate}
use Rattle.std.proofs.lemmas.List.Elements.{All-head, All-append, All-replicate, All-nil, All-cons}
use Rattle.std.proofs.lemmas.Bool.{and_parts}
use Rattle.burr_code.specs.declared.limits.TheConstants.{MOST_BUDGET}
use Rattle.burr_voxels.specs.declared.direction.Direction.{Direction}
use Rattle.burr_voxels.specs.Grid.{number_of}
use Rattle.burr_state.specs.declared.effect.Motion.{Motion}
use Rattle.burr_state.specs.Rules.Motions.{IsMotionOf}
use Rattle.burr_sheet.specs.Rules.SheetText.{MoveLine, alone, goes_onto, with_motion, longest_lines, aside_of, motion_count, motion_on, motions_of}
use Rattle.burr_sheet.specs.Views.MotionLines.{IsLineOf, joins}
use Rattle.burr_sheet.proofs.GrowingLines.{same_number, goes_onto-alike, with_motion-joined, with_motion-apart, with_motion-out}

-- the line with this many units, which an aside ends or not
abbrev of_units : MoveLine → ℕ → Bool → MoveLine
of_units l units out = record {
  group = l.group;
  tray = l.tray;
  direction = l.direction;
  units = units;
  out = out;
}

-- The lines of a line's motions

-- a step goes onto a line of its own group, tray and direction
goes_onto-own : (l : MoveLine) (units : ℕ) (out : Bool) → goes_onto (motion_on l false) (of_units l units out) ≡ true
goes_onto-own l units out = rw (same_number l.group, same_number l.tray, same_number (number_of l.direction)) refl

-- a motion that does not join the lines after it has a line of its own
with_motion-first : (m : Motion) (l : MoveLine) (ls : List MoveLine) → motion_on l l.out ≡ m → joins l ls ≡ false → with_motion m ls ≡ alone m ∷ ls
with_motion-first m l [] is apart = refl
with_motion-first m l (k ∷ ks) is apart = with_motion-apart m k ks (ap (λ (n : Motion). goes_onto n k) (sym is) ∙ apart)

-- one step more before them
longer : (l : MoveLine) (units : ℕ) (out : Bool) (more : List Motion) → longest_lines (motions_of (of_units l units out) ++ more) ≡ of_units l units out ∷ longest_lines more
    → longest_lines (motions_of (of_units l (suc units) out) ++ more) ≡ of_units l (suc units) out ∷ longest_lines more
longer l units out more so_far =
    ap (with_motion (motion_on l false)) so_far
    ∙ with_motion-joined (motion_on l false) (of_units l units out) (longest_lines more) (goes_onto-own l units out)
    ∙ (let next : units + 1 ≡ suc units = omega arith in ap (λ n. of_units l n out ∷ longest_lines more) next)

first_of : (l : MoveLine) (units : ℕ) (out : Bool) (more : List Motion) → joins (of_units l units out) (longest_lines more) ≡ false → 0 < motion_count (of_units l units out)
    → longest_lines (motions_of (of_units l units out) ++ more) ≡ of_units l units out ∷ longest_lines more
first_of l zero true more apart some = with_motion-out (motion_on l true) (longest_lines more) refl
first_of l zero false more apart some = absurd (omega arith)
first_of l (suc zero) false more apart some = with_motion-first (motion_on l false) (of_units l 1 false) (longest_lines more) refl apart
first_of l (suc (suc n)) false more apart some = longer l (suc n) false more (first_of l (suc n) false more apart (omega arith))
first_of l (suc n) true more apart some = longer l n true more (first_of l n true more apart (omega arith))

-- of a line of some motions, and whatever follows that does not join it, it is the first line
pub longest_lines-first : (l : MoveLine) (more : List Motion) → joins l (longest_lines more) ≡ false → 0 < motion_count l → longest_lines (motions_of l ++ more) ≡ l ∷ longest_lines more
longest_lines-first l more apart some = first_of l l.units l.out more apart some

-- The motions of the first line

-- motions begin with those of a line, and go on with those of lines that it does not join
pub record BeginsWith (l : MoveLine) (ls : List MoveLine) (motions : List Motion) : Type 0 where
  pub more : List Motion
  pub parts : motions ≡ motions_of l ++ more
  pub lines : longest_lines more ≡ ls
  pub apart : joins l ls ≡ false
  pub some : 0 < motion_count l

-- the motion of a line of one
pub alone_motions : (group tray : ℕ) (dir : Direction) (out : Bool)
    → motions_of (alone (record { group = group; tray = tray; dir = dir; out = out })) ≡ record { group = group; tray = tray; dir = dir; out = out } ∷ []
alone_motions group tray dir true = refl
alone_motions group tray dir false = refl

alone_count : (group tray : ℕ) (dir : Direction) (out : Bool) → 0 < motion_count (alone (record { group = group; tray = tray; dir = dir; out = out }))
alone_count group tray dir true = omega arith
alone_count group tray dir false = omega arith

-- a motion that has a line of its own
begins_alone : (m : Motion) (ms : List Motion) (ls : List MoveLine) → longest_lines ms ≡ ls → joins (alone m) ls ≡ false → BeginsWith (alone m) ls (m ∷ ms)
begins_alone m ms ls lines apart = record {
  more = ms;
  parts = ap (λ (own : List Motion). own ++ ms) (sym (alone_motions m.group m.tray m.dir m.out));
  lines = lines;
  apart = apart;
  some = alone_count m.group m.tray m.dir m.out;
}

-- no aside goes onto a line
step_of_onto : (m : Motion) (l : MoveLine) → goes_onto m l ≡ true → m ≡ motion_on l false
step_of_onto m l onto =
    let alike = goes_onto-alike m l onto in
    let step : m.out ≡ false = not_true m.out (and_parts (not m.out) (m.group == l.group) (and_parts (not m.out && (m.group == l.group)) (m.tray == l.tray) (and_parts (not m.out && (m.group == l.group) && (m.tray == l.tray)) (number_of m.dir == number_of l.direction) onto).0).0).0 in
    λ i. record { group = alike.group i; tray = alike.tray i; dir = alike.direction i; out = step i }
  where
    not_true : (b : Bool) → not b ≡ true → b ≡ false
    not_true true e = sym e
    not_true false e = refl

-- a motion that goes onto a line, and the line's motions
pub longer_motions : (m : Motion) (k : MoveLine) → goes_onto m k ≡ true
    → m ∷ motions_of k ≡ motions_of (record k { units = k.units + 1 })
longer_motions m k onto =
    ap (λ (n : Motion). n ∷ motions_of k) (step_of_onto m k onto)
    ∙ (let next : suc k.units ≡ k.units + 1 = omega arith in ap (λ n. motions_of (of_units k n k.out)) next)

-- a motion that goes onto the first of the lines after it
begins_longer : (m : Motion) (ms : List Motion) (k : MoveLine) (ks : List MoveLine) → goes_onto m k ≡ true → BeginsWith k ks ms → BeginsWith (record k { units = k.units + 1 }) ks (m ∷ ms)
begins_longer m ms k ks onto b = record {
  more = b.more;
  parts = ap (λ (rest : List Motion). m ∷ rest) b.parts ∙ ap (λ (own : List Motion). own ++ b.more) (longer_motions m k onto);
  lines = b.lines;
  apart = joins_longer ks b.apart;
  some = omega arith;
}
  where
    joins_longer : (ls : List MoveLine) → joins k ls ≡ false → joins (record k { units = k.units + 1 }) ls ≡ false
    joins_longer [] apart = refl
    joins_longer (l ∷ ls) apart = apart

same_lines : (l : MoveLine) (ls : List MoveLine) (k : MoveLine) (ks : List MoveLine) (motions : List Motion) → BeginsWith k ks motions → k ∷ ks ≡ l ∷ ls → BeginsWith l ls motions
same_lines l ls k ks motions b e =
    let head : k ≡ l = cc in
    let tail : ks ≡ ls = cc in
    subst (λ (j : MoveLine). BeginsWith j ls motions) head (subst (λ (js : List MoveLine). BeginsWith k js motions) tail b)

begins_by : (m : Motion) (ms : List Motion) (k : MoveLine) (ks : List MoveLine) (test : Bool) → goes_onto m k ≡ test → longest_lines ms ≡ k ∷ ks → BeginsWith k ks ms → (l : MoveLine) (ls : List MoveLine)
    → with_motion m (k ∷ ks) ≡ l ∷ ls → BeginsWith l ls (m ∷ ms)
begins_by m ms k ks true onto lines b l ls e = same_lines l ls _ ks (m ∷ ms) (begins_longer m ms k ks onto b) (sym (with_motion-joined m k ks onto) ∙ e)
begins_by m ms k ks false onto lines b l ls e = same_lines l ls (alone m) (k ∷ ks) (m ∷ ms) (begins_alone m ms (k ∷ ks) lines onto) (sym (with_motion-apart m k ks onto) ∙ e)

begins_from : (m : Motion) (ms : List Motion) (ks : List MoveLine) → longest_lines ms ≡ ks → ((k : MoveLine) (js : List MoveLine) → longest_lines ms ≡ k ∷ js → BeginsWith k js ms) → (l : MoveLine) (ls : List MoveLine)
    → with_motion m ks ≡ l ∷ ls → BeginsWith l ls (m ∷ ms)
begins_from m ms [] lines after l ls e = same_lines l ls (alone m) [] (m ∷ ms) (begins_alone m ms [] lines refl) e
begins_from m ms (k ∷ ks) lines after l ls e = begins_by m ms k ks (goes_onto m k) refl lines (after k ks lines) l ls e

-- motions begin with those of their first line
pub begins_with : (motions : List Motion) (l : MoveLine) (ls : List MoveLine) → longest_lines motions ≡ l ∷ ls → BeginsWith l ls motions
begins_with [] l ls e = cc
begins_with (m ∷ ms) l ls e = begins_from m ms (longest_lines ms) refl (begins_with ms) l ls e

-- no lines are those of no motions
pub none_of_none : (motions : List Motion) → longest_lines motions ≡ [] → motions ≡ []
none_of_none [] e = refl
none_of_none (m ∷ ms) e = absurd (some (longest_lines ms) e)
  where
    some : (ls : List MoveLine) → with_motion m ls ≢ []
    some [] e = cc
    some (l ∷ ls) e = by (goes_onto m l) refl e
      where
        by : (test : Bool) → goes_onto m l ≡ test → with_motion m (l ∷ ls) ≢ []
        by true onto e = joined (sym (with_motion-joined m l ls onto) ∙ e)
          where
            joined : record l { units = l.units + 1 } ∷ ls ≢ []
            joined e = cc
        by false onto e = apart (sym (with_motion-apart m l ls onto) ∙ e)
          where
            apart : alone m ∷ l ∷ ls ≢ []
            apart e = cc

-- How many they are, and what each is

pub length-motions_of : (l : MoveLine) → length (motions_of l) ≡ motion_count l
length-motions_of l = length-append (replicate l.units (motion_on l false)) (aside_of l) ∙ (λ i. length-replicate l.units (motion_on l false) i + asides l.out i)
  where
    asides : (out : Bool) → length (if out then (motion_on l true ∷ []) else []) ≡ (if out then 1 else 0)
    asides true = refl
    asides false = refl

-- each motion of a line of this many pieces is a motion of as many pieces
pub each_of : (pieces : ℕ) (l : MoveLine) → IsLineOf pieces l → All (IsMotionOf pieces) (motions_of l)
each_of pieces l line =
    All-append (IsMotionOf pieces) (replicate l.units (motion_on l false)) (aside_of l)
    (All-replicate (IsMotionOf pieces) l.units (motion_on l false) (record { some = line.some; group = line.group; tray = line.tray })) (asides l.out)
  where
    asides : (out : Bool) → All (IsMotionOf pieces) (if out then (motion_on l true ∷ []) else [])
    asides true = All-cons (IsMotionOf pieces) (motion_on l true) [] (record { some = line.some; group = line.group; tray = line.tray }) (All-nil (IsMotionOf pieces))
    asides false = All-nil (IsMotionOf pieces)

-- a line has a motion of this many pieces, where it has any motion and all of them are such
some_of : (pieces : ℕ) (l : MoveLine) (units : ℕ) (out : Bool) → 0 < motion_count (of_units l units out) → All (IsMotionOf pieces) (motions_of (of_units l units out))
    → (any : Bool) × IsMotionOf pieces (motion_on l any)
some_of pieces l zero true some each = (true, All-head (IsMotionOf pieces) (motion_on l true) [] each)
some_of pieces l zero false some each = absurd (omega arith)
some_of pieces l (suc n) out some each = (false, All-head (IsMotionOf pieces) (motion_on l false) (motions_of (of_units l n out)) each)

-- so such a line is a line of this many pieces
pub is_line_of : (pieces : ℕ) (l : MoveLine) → 0 < motion_count l → motion_count l ≤ MOST_BUDGET → All (IsMotionOf pieces) (motions_of l) → IsLineOf pieces l
is_line_of pieces l some few each =
    let one = (some_of pieces l l.units l.out some each).1 in
    record { some = one.some; group = one.group; tray = one.tray; units = omega arith; moves = some }
