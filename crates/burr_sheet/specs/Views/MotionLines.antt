-- Lines of a text: their words, and the motions that they stand for.
use Rattle.std.specs.Prelude.{◌≡◌, ◌≢◌, ℕ, ◌<◌, ◌≤◌, ◌^◌, List, [], ◌∷◌, ◌++◌, Bool, false, Option, Some, None, codes, decimal, length, Contains}
use Rattle.std.specs.Borrow.{Bor}
use Rattle.std.specs.List.{join_with_byte}
use Rattle.burr_text.specs.Words.{IsCutAt}
use Rattle.burr_voxels.specs.Grid.{name_of}
use Rattle.burr_code.specs.declared.limits.TheConstants.{MOST_BUDGET, TRAYS}
use Rattle.burr_sheet.specs.declared.motion_lines.MotionLine.{MotionLine}
use Rattle.burr_sheet.specs.declared.motion_lines.LineWords.{LineWords}
use Rattle.burr_sheet.specs.Rules.SheetText.{MoveLine, goes_onto, motion_count, motion_on, names_from, out_word, move_line}

-- The motions of a line

-- the line of the code as a line of a sheet
abbrev pub line_of : MotionLine → MoveLine
line_of l = record {
  group = l.group;
  tray = l.tray;
  direction = l.direction;
  units = l.units;
  out = l.out;
}

-- the last motion of the first line goes onto the next, so that they are one
abbrev pub joins : MoveLine → List MoveLine → Bool
joins l [] = false
joins l (k ∷ ks) = goes_onto (motion_on l l.out) k

-- the same of the line before, if there is one
abbrev pub joins_last : Option MotionLine → List MoveLine → Bool
joins_last None ls = false
joins_last (Some l) ls = joins (line_of l) ls

-- a line of at least one motion of this many pieces, with no more units than a run makes steps
pub record IsLineOf (pieces : ℕ) (l : MoveLine) : Type 0 where
  pub some : l.group ≢ 0
  pub group : l.group < 2 ^ pieces
  pub tray : l.tray < TRAYS
  pub units : l.units ≤ MOST_BUDGET
  pub moves : 0 < motion_count l

-- the text is a line and what follows it, and no other line is
pub record BeginsWithLine (names : List (List ℕ)) (n : ℕ) (text : List ℕ) (l : MoveLine)
    (after : List ℕ) : Type 0 where
  pub line : IsLineOf (length names) l
  pub parts : text ≡ move_line names n l ++ after
  pub alone : (k : MoveLine) (more : List ℕ) → IsLineOf (length names) k
      → text ≡ move_line names n k ++ more → (k ≡ l) × (more ≡ after)

-- The words of a line

-- the first words hold no blank, and the last no end of the line
pub record ArePlain (first second third last : List ℕ) : Type 0 where
  pub tray : ¬ Contains first 32
  pub names : ¬ Contains second 32
  pub direction : ¬ Contains third 32
  pub ending : ¬ Contains last 10

-- the text of the n-th line with these words, and what follows it
abbrev pub words_text : ℕ → List ℕ → List ℕ → List ℕ → List ℕ → List ℕ → List ℕ
words_text n tray names direction ending after =
    decimal n ++ (codes " t"
    ++ (tray ++ 32 ∷ (names ++ 32 ∷ (direction ++ 32 ∷ (ending ++ 10 ∷ after)))))

-- a text is cut into the words of the n-th line and what follows it
abbrev pub IsCutInto : ℕ → List ℕ → LineWords → List ℕ → Type 0
IsCutInto n text w after =
    ArePlain w.tray.now w.names.now w.direction.now w.ending.now
    × (text ≡ words_text n w.tray.now w.names.now w.direction.now w.ending.now after)

-- the units of a line, and whether an aside ends it
abbrev pub ending_text : ℕ → Bool → List ℕ
ending_text units out = join_with_byte 32 (decimal units ∷ out_word out)

-- the names of a group
abbrev pub group_text : List (List ℕ) → ℕ → List ℕ
group_text names group = join_with_byte 44 (names_from 0 group names)

-- the words are those of a line
pub record AreWordsOf (all : List (List ℕ)) (w : LineWords) (l : MoveLine) : Type 0 where
  pub tray : w.tray.now ≡ decimal l.tray
  pub names : w.names.now ≡ group_text all l.group
  pub direction : w.direction.now ≡ name_of l.direction
  pub ending : w.ending.now ≡ ending_text l.units l.out

-- The names of a group

-- what is left of the names: nothing, or some with a comma between each two
abbrev pub IsNamesText : Option (Bor (List ℕ)) → List (List ℕ) → Type 0
IsNamesText None names = names ≡ []
IsNamesText (Some text) names = (names ≢ []) × (text.now ≡ join_with_byte 44 names)

-- the first of the names that are left, empty where none is, and what is left after it
abbrev pub IsFirstName : Option (Bor (List ℕ)) → List ℕ → Option (Bor (List ℕ)) → Type 0
IsFirstName None name None = name ≡ []
IsFirstName None name (Some rest) = ⊥
IsFirstName (Some text) name None = (name ≡ text.now) × (¬ Contains text.now 44)
IsFirstName (Some text) name (Some rest) = IsCutAt 44 text.now name rest.now
