-- Plan texts that are made of the move lines of a sheet.
use Rattle.std.specs.Prelude.{◌≡◌, ◌⊎◌, ◌++◌, ◌∷◌, List, ℕ, zero, suc, ◌+◌, [], Bool, true, ◌==◌, ◌&&◌, if◌then◌else◌, nat_eq, codes, IsTrue}
use Rattle.std.specs.List.{starts_with}
use Rattle.burr_text.specs.Lines.{IsLines}
use Rattle.burr_assembly.specs.Rules.Text.{Assembly}
use Rattle.burr_assembly.specs.Rules.Homes.{homes_of, names_of}
use Rattle.burr_container.specs.Rules.Plans.{Plan}
use Rattle.burr_container.specs.Rules.Fitting.{is_fitting}
use Rattle.burr_frames.specs.Rules.FramedPlans.{framed_plan}
use Rattle.burr_plantext.specs.Rules.Listing.{IsListing}
use Rattle.burr_runs.specs.declared.text_runs.Outcome.TheVariants.{Apart}
use Rattle.burr_runs.specs.Rules.Headline.{IsSafeSheetOf}
use Rattle.burr_sheet.specs.Rules.Expanding.{AreLinesOf}
use Rattle.burr_state.specs.declared.effect.Motion.{Motion}
use Rattle.burr_verify.specs.Rules.WellFramed.{IsWellFramed}
use Rattle.burr_from_sheet.specs.declared.check.SheetFault.{SheetFault}
use Rattle.burr_from_sheet.specs.declared.check.SheetFault.TheVariants.{Line, TooLong, Refused, Differs, Memory}

-- What of a text stands before its first line that begins `levels `; the text begins a line, or
-- stands within one.
abbrev pub before_levels : Bool → List ℕ → List ℕ
before_levels begins [] = []
before_levels begins (b ∷ bytes) =
    if begins && starts_with nat_eq (b ∷ bytes) (codes "levels ") then []
    else (b ∷ before_levels (b == 10) bytes)

-- a text begins `levels `
abbrev pub BeginsLevels : List ℕ → Type 0
BeginsLevels text = (rest : List ℕ) × (text ≡ codes "levels " ++ rest)

-- the move lines of a sheet
abbrev pub move_lines_of : List ℕ → List ℕ
move_lines_of sheet = before_levels true sheet

-- The text begins with these lines. None of them begins `levels `; the line after them does, or
-- there is no line after them.
pub record AreBeforeLevels (text lines : List ℕ) : Type 0 where
  pub rest : List ℕ
  pub parts : text ≡ lines ++ rest
  pub none : (front more : List ℕ) → lines ≡ front ++ more → IsLines front
      → ¬ BeginsLevels more
  pub follows : (rest ≡ []) ⊎ (IsLines lines × BeginsLevels rest)

-- the move lines are those
abbrev pub MoveLinesAreBeforeLevels : Type 0
MoveLinesAreBeforeLevels = (text : List ℕ) → AreBeforeLevels text (move_lines_of text)

-- The text is the listing of a plan that is well framed for the assembly. Without answers its run
-- takes all pieces apart, and the sheet of that run is these lines, and then its levels.
pub record IsPlanTextOf (a : Assembly) (lines text : List ℕ) : Type 0 where
  pub plan : Plan
  pub fits : IsTrue (is_fitting plan)
  pub listing : IsListing plan text
  pub framed : IsWellFramed a.name (homes_of a) (framed_plan plan)
  pub closing : List ℕ
  pub sheet : IsSafeSheetOf a plan [] (lines ++ (codes "levels " ++ closing)) Apart

-- The text is that of a plan whose run has the move lines of the sheet.
abbrev pub IsPlanOfSheet : Assembly → List ℕ → List ℕ → Type 0
IsPlanOfSheet a sheet text = IsPlanTextOf a (move_lines_of sheet) text

-- the first n lines of a text, or the whole text where it has fewer
abbrev pub first_lines : ℕ → List ℕ → List ℕ
first_lines n [] = []
first_lines zero (b ∷ bytes) = []
first_lines (suc n) (b ∷ bytes) =
    b ∷ (if b == 10 then first_lines n bytes else first_lines (suc n) bytes)

-- the text is the lines of some motions of the assembly's pieces
abbrev pub AreOfMotions : Assembly → List ℕ → Type 0
AreOfMotions a lines = (motions : List Motion) × AreLinesOf (names_of a) lines motions

-- Line n of the text is its first faulty one: the lines before it are those of motions, and with it
-- they are those of none. So the text is the lines of no motions.
pub record IsFirstFaulty (a : Assembly) (lines : List ℕ) (n : ℕ) : Type 0 where
  pub before : ℕ
  pub next : n ≡ before + 1
  pub good : AreOfMotions a (first_lines before lines)
  pub faulty : ¬ AreOfMotions a (first_lines n lines)
  pub none : ¬ AreOfMotions a lines

-- what the fault of a sheet with these move lines means where it names a faulty line
abbrev pub TellsFaultyLine : Assembly → List ℕ → SheetFault → Type 0
TellsFaultyLine a lines (Line n) = IsFirstFaulty a lines n
TellsFaultyLine a lines (TooLong n) = Unit {0}
TellsFaultyLine a lines (Refused draft) = Unit {0}
TellsFaultyLine a lines (Differs n) = Unit {0}
TellsFaultyLine a lines Memory = Unit {0}
