-- What the code has read of a text as a whole, and what a line more or the end of the text gives.
use Rattle.std.specs.Prelude.{◌≡◌, ◌⊎◌, ℕ, suc, ◌+◌, List, [], ◌∷◌, ◌++◌, length, Result, Ok, Err, MatchResult}
use Rattle.std.specs.List.{flat_map}
use Rattle.burr_container.specs.Rules.Plans.{Plan}
use Rattle.burr_plantext.specs.Rules.Checks.{P1}
use Rattle.burr_plantext.specs.Rules.Written.{natural_in}
use Rattle.burr_plantext.specs.Rules.Lines.{PlanWords, Line, ProcLine}
use Rattle.burr_plantext.specs.Rules.Sources.{ProcedureSource, PlanSource, procedure_lines}
use Rattle.burr_plantext.specs.Rules.Meaning.{procedure_names, plan_of}
use Rattle.burr_plantext.specs.Rules.Right.{unknown_names, first_true}
use Rattle.burr_plantext.specs.Rules.Texts.{Reads}
use Rattle.burr_plantext.specs.Rules.Faults.{Beginning, Blank, Titled, Within, OpenProcedure, PlacedFault, LineResult, Stage as SourceStage, InCode, within, at_end, and_next, with_known_names}
use Rattle.burr_asm.specs.declared.fault.AsmFault.{AsmFault}
use Rattle.burr_asm.specs.declared.fault.AsmFault.TheVariants.{Memory}
use Rattle.burr_asm.specs.declared.text.stage.Stage.{Stage}
use Rattle.burr_asm.specs.declared.text.front.Front.{Front}
use Rattle.burr_asm.specs.declared.text.front.Front.TheVariants.{AwaitsPlan, AwaitsMain, InProcedure}
use Rattle.burr_asm.specs.Rules.Faults.{fault_at}
use Rattle.burr_asm.specs.Views.Routines.{RoutineParts, OutlineParts}
use Rattle.burr_asm.specs.Views.Beginnings.{AreEnded, IsStage}

-- Plans

-- The code has this of a plan: its first line, the procedures that have ended, and the names of all
-- that have begun.
pub record IsOutline (number : ℕ → ℕ) (o : OutlineParts) (title : PlanWords)
    (before : List ProcedureSource) (begun : List (List ℕ)) : Type 0 where
  pub version_is : o.version ≡ title.version
  pub name_is : o.name ≡ title.name
  pub pieces_are : o.pieces ≡ natural_in title.pieces
  pub budget_is : o.budget ≡ natural_in title.budget
  pub names : o.names ≡ begun
  pub ended : AreEnded number 1 title.version o.ended before

-- the names of the procedures, with the one that has not ended
abbrev pub names_begun : OpenProcedure → List (List ℕ)
names_begun u = procedure_names u.ended ++ u.head.name ∷ []

-- where the procedure that has not ended begins
abbrev pub start_of : OpenProcedure → ℕ
start_of u = 1 + length (flat_map procedure_lines u.ended)

-- the code's procedure under way, and that of the rules
abbrev pub IsUnderWay : (ℕ → ℕ) → ℕ → OutlineParts → RoutineParts → Stage → OpenProcedure
    → SourceStage → Type 0
IsUnderWay number place o r stage u t =
    IsOutline number o u.title u.ended (names_begun u)
    × IsStage number place (start_of u) u.title.version r u.head stage t

-- a procedure under way, in its plan
abbrev pub in_procedure : OutlineParts → RoutineParts → Stage → Front
in_procedure o r stage = InProcedure (record { outline = o; routine = r; stage = stage })

-- What the code has read before a place is this beginning.
abbrev pub IsFront : (ℕ → ℕ) → ℕ → Front → Beginning → Type 0
IsFront number place AwaitsPlan Blank = place ≡ 0
IsFront number place (AwaitsMain o) (Titled title) =
    IsOutline number o title [] [] × (place ≡ 1)
IsFront number place (InProcedure w) (Within u t) =
    IsUnderWay number place w.outline w.routine w.stage u t
IsFront number place f b = ⊥

-- Results

-- memory is wanting, or this is the fault, at its line
abbrev pub IsFaultOf : {A : Type 0} → (ℕ → ℕ) → Result A PlacedFault → AsmFault → Type 0
IsFaultOf number given e =
    (e ≡ Memory)
    ⊎ ((at : PlacedFault) × (given ≡ Err at) × (e ≡ fault_at at.0 (number at.1)))

-- What the line at a place gives.
abbrev pub IsNext : (ℕ → ℕ) → ℕ → LineResult → Result Front AsmFault → Type 0
IsNext number place given result =
    MatchResult result
    (λ f. (b : Beginning) × (given ≡ Ok b) × IsFront number (suc place) f b)
    (IsFaultOf number given)

-- the same within a procedure: the code gives its stage, and changes the rest of it in place
abbrev pub IsNextStage : (ℕ → ℕ) → ℕ → OpenProcedure → RoutineParts → LineResult
    → Result Stage AsmFault → Type 0
IsNextStage number place u r given result =
    MatchResult result
    (λ stage. (t : SourceStage) × (given ≡ Ok (Within u t))
    × IsStage number (suc place) (start_of u) u.title.version r u.head stage t)
    (IsFaultOf number given)

-- a line after which the procedure goes on; after a frame no other procedure may begin
abbrev pub within_one : ℕ → OpenProcedure → SourceStage → Line → LineResult
within_one place u (InCode exit blocks b) (ProcLine head) = Err (P1, place)
within_one place u t line = within place u t (Reads line)

-- what the end of the text gives after a beginning
abbrev pub ending : ℕ → Beginning → Result PlanSource PlacedFault
ending place b =
    and_next (at_end place b) (λ s. with_known_names s (first_true (unknown_names s)))

-- The code's plan is that of the source, or this is the fault.
abbrev pub IsPlanOf : (ℕ → ℕ) → Result PlanSource PlacedFault → Result Plan AsmFault → Type 0
IsPlanOf number given result =
    MatchResult result (λ plan. (s : PlanSource) × (given ≡ Ok s) × (plan ≡ plan_of s))
    (IsFaultOf number given)
