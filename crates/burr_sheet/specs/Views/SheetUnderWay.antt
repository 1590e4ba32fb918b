-- A sheet under way: its motions come one at a time, and what they close is written at once.
use Rattle.std.specs.Prelude.{◌≡◌, ◌≢◌, ℕ, ◌+◌, ◌≤◌, List, [], ◌∷◌, ◌++◌, Bool, true, false, Option, Some, None, MatchOption, if◌then◌else◌}
use Rattle.std.specs.List.{join_with_byte}
use Rattle.burr_io.specs.Sink.{SinkView, Takes, FailsWithin}
use Rattle.burr_code.specs.declared.limits.TheConstants.{MOST_BUDGET}
use Rattle.burr_state.specs.declared.effect.Motion.{Motion}
use Rattle.burr_state.specs.declared.effect.Closing.{Closing}
use Rattle.burr_sheet.specs.declared.sheet.GrowingLine.{GrowingLine}
use Rattle.burr_sheet.specs.Rules.SheetText.{MoveLine, is_one, with_motion, longest_lines, names_from, levels_from, move_lines, levels_line, closing_line}

-- the names of a group between two blanks, as they stand in its lines
abbrev pub spaced_names : List (List ℕ) → ℕ → List ℕ
spaced_names names group = 32 ∷ (join_with_byte 44 (names_from 0 group names) ++ 32 ∷ [])

-- how far a sheet is
pub record UnderWay : Type 0 where
  -- the names of the pieces
  pub names : List (List ℕ)
  -- the line that may still grow
  pub growing : Option MoveLine
  -- how many lines are closed
  pub lines : ℕ
  -- how many of them after the last out
  pub level : ℕ
  -- for each out so far, how many lines there were since the out before it, its own included
  pub levels : List ℕ
  -- how many motions have come
  pub motions : ℕ
  -- a sink has failed
  pub failed : Bool

-- a sheet to which no motion has come
abbrev pub blank : List (List ℕ) → UnderWay
blank names = record {
  names = names;
  growing = None;
  lines = 0;
  level = 0;
  levels = [];
  motions = 0;
  failed = false;
}

-- the growing line with the lines that follow
abbrev pub with_growing : Option MoveLine → List MoveLine → List MoveLine
with_growing None lines = lines
with_growing (Some l) [] = l ∷ []
with_growing (Some l) (m ∷ lines) =
    if is_one l m then (record m { units = l.units + m.units } ∷ lines) else (l ∷ m ∷ lines)

-- What is still to be written, if these lines follow the growing one and the run closes in this way
-- after this many steps.
abbrev pub to_come : UnderWay → List MoveLine → ℕ → Closing → List ℕ
to_come u lines steps closing =
    move_lines u.names (u.lines + 1) (with_growing u.growing lines)
    ++ levels_line (u.levels ++ levels_from u.level (with_growing u.growing lines))
    ++ closing_line closing steps

-- the growing line as it stands, or nothing
abbrev pub growing_text : UnderWay → List ℕ
growing_text u = move_lines u.names (u.lines + 1) (with_growing u.growing [])

-- What is still to be written, if these motions follow and the run closes in this way after this
-- many steps.
abbrev pub still : UnderWay → List Motion → ℕ → Closing → List ℕ
still u motions steps closing = to_come u (longest_lines motions) steps closing

-- Whatever follows, these bytes are what the motion closes: after them comes what is then still
-- to be written.
abbrev pub Closes : UnderWay → Motion → UnderWay → List ℕ → Type 0
Closes old motion new bytes =
    (motions : List Motion) (steps : ℕ) (closing : Closing)
    → still old (motion ∷ motions) steps closing ≡ bytes ++ still new motions steps closing

-- a sink took what the motion closes
abbrev pub PutsMotion : {S : Type 0} → SinkView S → S → S → UnderWay → Motion → UnderWay → Type 0
PutsMotion sink before after old motion new =
    (bytes : List ℕ) × Takes sink before after bytes × Closes old motion new bytes

-- the motion closes something, and a sink failed in that, and had taken a front of it
abbrev pub FailsInMotion : {S : Type 0} → SinkView S → S → S → UnderWay → Motion → Type 0
FailsInMotion sink before after old motion =
    (new : UnderWay) × (bytes : List ℕ) × Closes old motion new bytes × (bytes ≢ [])
    × FailsWithin sink before after bytes

-- the sheet had not failed, and has not failed now
abbrev pub StaysUnfailed : UnderWay → UnderWay → Type 0
StaysUnfailed old new = (old.failed ≡ false) × (new.failed ≡ false)

-- a sheet that had failed leaves the sink as it is; of another one this holds
abbrev pub OnUnfailed : {S : Type 0} → UnderWay → S → S → Type 0 → Type 0
OnUnfailed old before after told =
    ((old.failed ≡ true) → after ≡ before) × ((old.failed ≡ false) → told)

-- the counts of motions and outs are as they were
abbrev pub KeepsCounts : UnderWay → UnderWay → Type 0
KeepsCounts old new = (new.motions ≡ old.motions) × (new.levels ≡ old.levels)

-- Whatever follows, these bytes are closed before the motion goes on the growing line.
abbrev pub ClosesBefore : UnderWay → Motion → UnderWay → List ℕ → Type 0
ClosesBefore old motion new bytes =
    (lines : List MoveLine) (steps : ℕ) (closing : Closing)
    → to_come old (with_motion motion lines) steps closing
    ≡ bytes ++ to_come new (with_motion motion lines) steps closing

-- a sink took what is closed before the motion
abbrev pub PutsBefore : {S : Type 0} → SinkView S → S → S → UnderWay → Motion → UnderWay → Type 0
PutsBefore sink before after old motion new =
    (bytes : List ℕ) × Takes sink before after bytes × ClosesBefore old motion new bytes

-- how many lines are growing: one or none
abbrev pub growing_lines : Option MoveLine → ℕ
growing_lines None = 0
growing_lines (Some l) = 1

-- the counts are in their bounds: there are never more lines than motions
pub record IsCounted (u : UnderWay) : Type 0 where
  pub motions : u.motions ≤ MOST_BUDGET
  pub lines : u.lines + growing_lines u.growing ≤ u.motions
  pub level : u.level ≤ u.lines
  pub units : MatchOption u.growing (Unit {0}) (λ l. l.units ≤ u.motions)

-- how many outs a motion is: one or none
abbrev pub outs_of : Motion → ℕ
outs_of m = if m.out then 1 else 0

-- the growing line of the code as a line of the sheet, which an aside ends or not
abbrev pub move_line_of : GrowingLine → Bool → MoveLine
move_line_of l out = record {
  group = l.group;
  tray = l.tray;
  direction = l.direction;
  units = l.units;
  out = out;
}
