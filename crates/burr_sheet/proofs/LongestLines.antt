-- The lines of motions: they give the motions back, and are as long as may be.
use Rattle.std.proofs.Common.{◌≡◌, ◌+◌, ◌<◌, List, [], ◌∷◌, ◌++◌, Bool, true, false, refl, sym, ap, subst, ◌∙◌, append-nil, arith}
use Rattle.std.specs.Prelude.{flat_map, if◌then◌else◌}
use Rattle.burr_state.specs.declared.effect.Motion.{Motion}
use Rattle.burr_sheet.specs.Rules.SheetText.{MoveLine, alone, goes_onto, with_motion, longest_lines, motions_of}
use Rattle.burr_sheet.specs.Laws.SheetLaws.{AreLongest, LinesAreLongest}
use Rattle.burr_sheet.proofs.GrowingLines.{goes_onto-step, with_motion-joined, with_motion-apart}
use Rattle.burr_sheet.proofs.Common.LineMotions.{alone_motions, longer_motions}

-- the motions of lines
abbrev motions_back : List MoveLine → List Motion
motions_back ls = flat_map motions_of ls

-- The motions

with_one_more : (m : Motion) (l : MoveLine) (ls : List MoveLine) (onto : Bool) → goes_onto m l ≡ onto
    → motions_back (with_motion m (l ∷ ls)) ≡ m ∷ motions_back (l ∷ ls)
with_one_more m l ls true is =
    ap motions_back (with_motion-joined m l ls is)
    ∙ ap (λ (ms : List Motion). ms ++ motions_back ls) (sym (longer_motions m l is))
with_one_more m l ls false is =
    ap motions_back (with_motion-apart m l ls is)
    ∙ ap (λ (ms : List Motion). ms ++ motions_back (l ∷ ls)) (alone_motions m.group m.tray m.dir m.out)

one_more : (m : Motion) (ls : List MoveLine) → motions_back (with_motion m ls) ≡ m ∷ motions_back ls
one_more m [] = append-nil (motions_of (alone m)) ∙ alone_motions m.group m.tray m.dir m.out
one_more m (l ∷ ls) = with_one_more m l ls (goes_onto m l) refl

give_back : (motions : List Motion) → motions_back (longest_lines motions) ≡ motions
give_back [] = refl
give_back (m ∷ ms) = one_more m (longest_lines ms) ∙ ap (λ (rest : List Motion). m ∷ rest) (give_back ms)

-- How long the lines are

longer_still : (l : MoveLine) (ls : List MoveLine) → AreLongest (l ∷ ls)
    → AreLongest (record l { units = l.units + 1 } ∷ ls)
longer_still l [] h = omega arith
longer_still l (k ∷ ks) h = (omega arith, h.1, h.2)

-- a line of one motion has it
has_one : (out : Bool) → 0 < (if out then 0 else 1) + (if out then 1 else 0)
has_one true = omega arith
has_one false = omega arith

with_one_still : (m : Motion) (l : MoveLine) (ls : List MoveLine) (onto : Bool) → goes_onto m l ≡ onto
    → AreLongest (l ∷ ls) → AreLongest (with_motion m (l ∷ ls))
with_one_still m l ls true is h = subst AreLongest (sym (with_motion-joined m l ls is)) (longer_still l ls h)
with_one_still m l ls false is h =
    subst AreLongest (sym (with_motion-apart m l ls is))
    (has_one m.out, λ step. sym (goes_onto-step m l step) ∙ is, h)

one_still : (m : Motion) (ls : List MoveLine) → AreLongest ls → AreLongest (with_motion m ls)
one_still m [] h = has_one m.out
one_still m (l ∷ ls) h = with_one_still m l ls (goes_onto m l) refl h

are_longest : (motions : List Motion) → AreLongest (longest_lines motions)
are_longest [] = tt
are_longest (m ∷ ms) = one_still m (longest_lines ms) (are_longest ms)

pub lines_are_longest : LinesAreLongest
lines_are_longest motions = (give_back motions, are_longest motions)
