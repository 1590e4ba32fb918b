-- What holds of all sheets.
use Rattle.std.specs.Prelude.{◌≡◌, ◌<◌, ◌≤◌, ℕ, ℤ, List, [], ◌∷◌, ◌++◌, false, flat_map}
use Rattle.std.specs.List.{All}
use Rattle.burr_text.specs.Lines.{IsUnended, IsLines}
use Rattle.burr_assembly.specs.Rules.Text.{Assembly, IsAssembly}
use Rattle.burr_assembly.specs.Rules.Homes.{homes_of, names_of}
use Rattle.burr_state.specs.declared.effect.Motion.{Motion}
use Rattle.burr_state.specs.declared.effect.Closing.{Closing}
use Rattle.burr_state.specs.Rules.Bench.{Program, running, start}
use Rattle.burr_state.specs.Rules.Run.{Run}
use Rattle.burr_sheet.specs.Rules.Expanding.{AreLinesOf}
use Rattle.burr_sheet.specs.Rules.SheetText.{MoveLine, sheet, closing_line, longest_lines, motion_lines, motion_count, motions_of, is_one}

-- a closing line is one line
abbrev pub ClosesInOneLine : Type 0
ClosesInOneLine =
    (closing : Closing) (steps : ℕ)
    → (body : List ℕ) × IsUnended body × (closing_line closing steps ≡ body ++ 10 ∷ [])

-- a sheet is lines and after them its closing line
abbrev pub EndsInClosing : Type 0
EndsInClosing =
    (names : List (List ℕ)) (motions : List Motion) (steps : ℕ) (closing : Closing)
    → (front : List ℕ) × IsLines front
    × (sheet names motions steps closing ≡ front ++ closing_line closing steps)

-- where no name holds an end of a line, a closing line stands in a sheet only at its end
abbrev pub ClosesOnce : Type 0
ClosesOnce =
    (names : List (List ℕ)) (motions : List Motion) (steps count : ℕ) (closing other : Closing)
    (front rest : List ℕ) → All IsUnended names → IsLines front
    → sheet names motions steps closing ≡ front ++ closing_line other count ++ rest
    → (rest ≡ []) × (closing_line other count ≡ closing_line closing steps)

-- each line has a motion, and none could be one with the line after it: an aside ends it, or what
-- moves, where or along which direction is another
abbrev pub AreLongest : List MoveLine → Type 0
AreLongest [] = Unit {0}
AreLongest (l ∷ []) = 0 < motion_count l
AreLongest (l ∷ m ∷ ls) =
    (0 < motion_count l) × ((l.out ≡ false) → is_one l m ≡ false) × AreLongest (m ∷ ls)

-- the lines of motions give these back in their order, and are as long as may be
abbrev pub LinesAreLongest : Type 0
LinesAreLongest =
    (motions : List Motion)
    → (flat_map motions_of (longest_lines motions) ≡ motions)
    × AreLongest (longest_lines motions)

-- a text is the lines of one list of motions of an assembly's pieces at most, as a list of motions
-- has one text
abbrev pub OneListOfMotions : Type 0
OneListOfMotions =
    (a : Assembly) (text : List ℕ) (motions others : List Motion) → IsAssembly a
    → AreLinesOf (names_of a) text motions → AreLinesOf (names_of a) text others → motions ≡ others

-- the move lines of a run of a program on an assembly are the lines of its motions, whatever is
-- answered: no more motions than fit, each of some of the pieces, in a tray
abbrev pub LinesOfRunsAreOfMotions : Type 0
LinesOfRunsAreOfMotions =
    (a : Assembly) (program : Program) (answers : List ℤ) (motions : List Motion) (steps : ℕ)
    (closing : Closing)
    → program.budget ≤ 1000000
    → Run (running (homes_of a) program) program.budget (start (running (homes_of a) program))
    answers motions steps closing
    → AreLinesOf (names_of a) (motion_lines (names_of a) motions) motions
