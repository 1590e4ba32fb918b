-- What the code that lists adds to a text.
use Rattle.std.specs.Prelude.{◌≡◌, ◌⊎◌, ℕ, ◌+◌, ◌<◌, ◌≤◌, List, [], ◌∷◌, ◌++◌, length, drop, Option, Some, Bool, slice_get}
use Rattle.burr_container.specs.Rules.Plans.{Frame, Plan, PlanProcedure}
use Rattle.burr_plantext.specs.Rules.Statements.{Statement}
use Rattle.burr_plantext.specs.Rules.Lines.{LabelLine, CodeLine}
use Rattle.burr_plantext.specs.Rules.Sources.{Block, ProcedureSource, frame_lines}
use Rattle.burr_plantext.specs.Rules.Meaning.{code_size}
use Rattle.burr_plantext.specs.Rules.Writing.{text_of, line_text}
use Rattle.burr_plantext.specs.Rules.Listing.{IsListedAs, IsListedRaw, IsCodeListed, AreBlocksListed, code_after, label_name, frame_listed, IsProcedureListed}
use Rattle.burr_plantext.specs.Rules.ListedPlaces.{code_text, blocks_text, procedure_text}

-- where the first of labels stands, or the end of the code
abbrev pub begin_of : ℕ → List (ℕ × Frame) → ℕ
begin_of end [] = end
begin_of end (label ∷ labels) = label.0

-- the first line of code is added, and stands for the first `size` bytes
pub record IsLineAdded (labels procedures : ℕ) (code old new : List ℕ) (size : ℕ) : Type 0 where
  pub statement : Statement
  pub listed :
      IsListedAs labels procedures code statement (drop size code)
      ⊎ IsListedRaw labels procedures code statement (drop size code)
  pub text : new ≡ old ++ line_text (CodeLine statement)
  pub whole : size ≡ code_size (statement ∷ [])
  pub some : 0 < size
  pub within : size ≤ length code

-- the lines of code are added
abbrev pub IsCodeAdded : ℕ → ℕ → Option ℕ → ℕ → List ℕ → List ℕ → List ℕ → Type 0
IsCodeAdded labels procedures placed pc bytes old new =
    (code : List Statement) × IsCodeListed labels procedures bytes code
    × (new ≡ old ++ code_text placed pc code)

-- label n of the procedure is added, with its frame and its code
abbrev pub IsBlockAdded : ℕ → ℕ → Option ℕ → PlanProcedure → ℕ → List ℕ → List ℕ → Type 0
IsBlockAdded labels procedures placed q n old new =
    (l : ℕ × Frame) → slice_get q.labels n ≡ Some l
    → (code : List Statement)
    × IsCodeListed labels procedures (code_after q.code l.0 (drop (n + 1) q.labels)) code
    × (new ≡ old ++ (text_of (LabelLine (label_name n) ∷ frame_lines (frame_listed l.1))
    ++ code_text placed l.0 code))

-- the labels of a procedure of the plan are added, with their frames and their code
abbrev pub AreBlocksAdded : Plan → PlanProcedure → Option ℕ → List ℕ → List ℕ → Type 0
AreBlocksAdded p q placed old new =
    (blocks : List Block)
    × AreBlocksListed (length q.labels) (length p.procedures) q.code 0 q.labels blocks
    × (new ≡ old ++ blocks_text placed 0 blocks)

-- procedure n of the plan is added, with places or without
abbrev pub IsProcedureAdded : Bool → Plan → ℕ → PlanProcedure → List ℕ → List ℕ → Type 0
IsProcedureAdded places p n q old new =
    (s : ProcedureSource) × IsProcedureListed p.version (length p.procedures) n q s
    × (new ≡ old ++ procedure_text places n s)
