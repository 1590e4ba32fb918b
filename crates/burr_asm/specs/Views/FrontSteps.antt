-- What a line more, or the end of the text, makes of what has been read.
use Rattle.std.specs.Prelude.{◌≡◌, ℕ, List, [], Option, None, Some, Bool, true, false, Result, Ok, Err}
use Rattle.burr_container.specs.Rules.Plans.{Plan}
use Rattle.burr_plantext.specs.Rules.Lines.{Line, ProcedureWords, PlanWords, ProcLine}
use Rattle.burr_plantext.specs.Rules.Sources.{ExitSource, Block}
use Rattle.burr_plantext.specs.Rules.Texts.{LineRead, Reads, is_skipped, ended_line}
use Rattle.burr_plantext.specs.Rules.Faults as faults
use Rattle.burr_plantext.specs.Rules.Faults.{Beginning, OpenProcedure, PlacedFault, with_line, within, main_begins, in_code}
use Rattle.burr_asm.specs.declared.fault.AsmFault.{AsmFault}
use Rattle.burr_asm.specs.declared.text.stage.Stage.{Stage}
use Rattle.burr_asm.specs.declared.text.stage.Stage.TheVariants.{InCode}
use Rattle.burr_asm.specs.declared.text.front.Front.{Front}
use Rattle.burr_asm.specs.Rules.Faults.{fault_at}
use Rattle.burr_asm.specs.Views.Routines.{RoutineParts, OutlineParts}
use Rattle.burr_asm.specs.declared.text.front.Front.TheVariants.{AwaitsPlan, AwaitsMain, InProcedure}
use Rattle.burr_asm.specs.Views.Steps.{misses_part}
use Rattle.burr_asm.specs.Views.Fronts.{IsFront, IsOutline, IsUnderWay, IsNext, IsPlanOf, ending, within_one}

-- a line with this first word shows that a part of the procedure under way is missing
abbrev pub misses : Front → List ℕ → Bool
misses AwaitsPlan word = false
misses (AwaitsMain o) word = false
misses (InProcedure u) word = misses_part u.stage word

-- what has been read after a line: the next front, or this one as the line has left it; or the fault
abbrev pub front_after : Front → Result (Option Front) AsmFault → Result Front AsmFault
front_after now (Ok None) = Ok now
front_after now (Ok (Some next)) = Ok next
front_after now (Err e) = Err e

-- A line with its end: one that is skipped changes nothing.
abbrev pub GivesNext : Front → List ℕ → ℕ → Result Front AsmFault → Type 0
GivesNext f bytes n result =
    ((is_skipped bytes ≡ true) → result ≡ Ok f)
    × ((is_skipped bytes ≡ false) → (number : ℕ → ℕ) (place : ℕ) (b : Beginning)
    → n ≡ number place → IsFront number place f b
    → IsNext number place (with_line place b (ended_line bytes)) result)

-- a line that is read
abbrev pub GivesFront : Front → Line → ℕ → Result Front AsmFault → Type 0
GivesFront f line n result =
    (number : ℕ → ℕ) (place : ℕ) (b : Beginning) → n ≡ number place → IsFront number place f b
    → IsNext number place (with_line place b (Reads line)) result

-- a line that is refused, whatever it is
abbrev pub GivesFault : Front → LineRead → ℕ → AsmFault → Type 0
GivesFault f line n e =
    (number : ℕ → ℕ) (place : ℕ) (b : Beginning) → n ≡ number place → IsFront number place f b
    → (at : PlacedFault) × (with_line place b line ≡ Err at) × (e ≡ fault_at at.0 (number at.1))

-- the line of main
abbrev pub BeginsMain : OutlineParts → ProcedureWords → ℕ → Result Front AsmFault → Type 0
BeginsMain o h n result =
    (number : ℕ → ℕ) (title : PlanWords) → n ≡ number 1 → IsOutline number o title [] []
    → IsNext number 1 (main_begins 1 title (Reads (ProcLine h))) result

-- the line of a procedure, after another one
abbrev pub NextProcedure : OutlineParts → RoutineParts → ProcedureWords → ℕ
    → Result Front AsmFault → Type 0
NextProcedure o r h n result =
    (number : ℕ → ℕ) (place : ℕ) (u : OpenProcedure) (exit : Option ExitSource)
    (blocks : List Block) (b : Block)
    → n ≡ number place → IsUnderWay number place o r InCode u (faults.InCode exit blocks b)
    → IsNext number place (in_code place u exit blocks b (Reads (ProcLine h))) result

-- a line within a procedure
abbrev pub GivesUnderWay : OutlineParts → RoutineParts → Stage → Line → ℕ
    → Result Front AsmFault → Type 0
GivesUnderWay o r stage line n result =
    (number : ℕ → ℕ) (place : ℕ) (u : OpenProcedure) (t : faults.Stage)
    → n ≡ number place → IsUnderWay number place o r stage u t
    → IsNext number place (within place u t (Reads line)) result

-- the same where no other procedure begins
abbrev pub GivesWithin : OutlineParts → RoutineParts → Stage → Line → ℕ
    → Result Front AsmFault → Type 0
GivesWithin o r stage line n result =
    (number : ℕ → ℕ) (place : ℕ) (u : OpenProcedure) (t : faults.Stage)
    → n ≡ number place → IsUnderWay number place o r stage u t
    → IsNext number place (within_one place u t line) result

-- the end of the text
abbrev pub EndsText : Front → ℕ → Result Plan AsmFault → Type 0
EndsText f n result =
    (number : ℕ → ℕ) (place : ℕ) (b : Beginning) → n ≡ number place → IsFront number place f b
    → IsPlanOf number (ending place b) result
