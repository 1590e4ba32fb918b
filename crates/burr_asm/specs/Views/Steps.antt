-- What a line more, or the end of the text, makes of a stage.
use Rattle.std.specs.Prelude.{◌≡◌, ℕ, List, Option, Some, None, codes, Bool, false, not, Result, Ok, Err, MatchResult}
use Rattle.std.specs.Str.{bytes_eq}
use Rattle.burr_plantext.specs.Rules.Written.{natural_in}
use Rattle.burr_plantext.specs.Rules.Lines.{Line}
use Rattle.burr_plantext.specs.Rules.Sources.{ExitSource, Block}
use Rattle.burr_plantext.specs.Rules.Faults as faults
use Rattle.burr_plantext.specs.Rules.Faults.{OpenProcedure, PlacedFault, end_within}
use Rattle.burr_asm.specs.declared.fault.AsmFault.{AsmFault}
use Rattle.burr_asm.specs.declared.text.stage.Stage.{Stage}
use Rattle.burr_asm.specs.declared.text.stage.Stage.TheVariants.{AwaitsLabel, AwaitsFrame}
use Rattle.burr_asm.specs.Rules.Faults.{fault_at}
use Rattle.burr_asm.specs.Views.Routines.{RoutineParts}
use Rattle.burr_asm.specs.Views.Beginnings.{IsStage}
use Rattle.burr_asm.specs.Views.Fronts.{IsNextStage, within_one, start_of}

-- a line with this first word shows that a label or a frame is missing
abbrev pub misses_part : Stage → List ℕ → Bool
misses_part AwaitsLabel word = not (bytes_eq word (codes "label"))
misses_part AwaitsFrame word = not (bytes_eq word (codes "frame"))
misses_part _ word = false

-- the code's stage of an open procedure stands for that of the rules
abbrev pub IsStageOf : (ℕ → ℕ) → ℕ → OpenProcedure → RoutineParts → Stage → faults.Stage → Type 0
IsStageOf number place u r stage t =
    IsStage number place (start_of u) u.title.version r u.head stage t

-- what a change in place gives: what is there after it, or the fault
abbrev pub changed : {A U E : Type 0} → A → Result U E → Result A E
changed now (Ok done) = Ok now
changed now (Err e) = Err e

-- the stage after a line: the next one, or this one as the line has left it; or the fault
abbrev pub stage_after : {E : Type 0} → Stage → Result (Option Stage) E → Result Stage E
stage_after now (Ok None) = Ok now
stage_after now (Ok (Some next)) = Ok next
stage_after now (Err e) = Err e

-- What a line with this number gives in a plan for this many pieces.
abbrev pub GivesStage : Stage → RoutineParts → ℕ → Line → ℕ → RoutineParts
    → Result Stage AsmFault → Type 0
GivesStage stage old pieces line n new result =
    (number : ℕ → ℕ) (place : ℕ) (u : OpenProcedure) (t : faults.Stage)
    → pieces ≡ natural_in u.title.pieces → n ≡ number place
    → IsStageOf number place u old stage t
    → IsNextStage number place u new (within_one place u t line) result

-- the same in a plan for any number of pieces
abbrev pub GivesInAny : Stage → RoutineParts → Line → ℕ → RoutineParts → Result Stage AsmFault
    → Type 0
GivesInAny stage old line n new result =
    (number : ℕ → ℕ) (place : ℕ) (u : OpenProcedure) (t : faults.Stage) → n ≡ number place
    → IsStageOf number place u old stage t
    → IsNextStage number place u new (within_one place u t line) result

-- The text may end after a frame, and else has a fault.
abbrev pub EndsStage : {A : Type 0} → Stage → ℕ → Result A AsmFault → Type 0
EndsStage stage n result =
    (number : ℕ → ℕ) (place : ℕ) (u : OpenProcedure) (r : RoutineParts) (t : faults.Stage)
    → n ≡ number place → IsStageOf number place u r stage t
    → MatchResult result
    (λ done. (exit : Option ExitSource) × (blocks : List Block) × (b : Block)
    × (t ≡ faults.InCode exit blocks b))
    (λ e. (at : PlacedFault) × (end_within place u t ≡ Err at)
    × (e ≡ fault_at at.0 (number at.1)))
