-- What the code has read of a text, and the beginning of a source that it stands for.
use Rattle.std.specs.Prelude.{◌≡◌, ℕ, suc, ◌+◌, ◌-◌, List, [], ◌∷◌, ◌++◌, length, Option, None, IsTrue}
use Rattle.std.specs.List.{flat_map, list_all}
use Rattle.burr_plantext.specs.Rules.Statements.{Statement}
use Rattle.burr_plantext.specs.Rules.Lines.{Line, ProcedureWords, ProcLine, CodeLine}
use Rattle.burr_plantext.specs.Rules.Sources.{ExitSource, Block, ProcedureSource, some_exit_lines, exit_lines, condition_lines, frame_lines, block_lines, procedure_lines}
use Rattle.burr_plantext.specs.Rules.Meaning.{some_exit_in, labels_in, label_names, code_size, block_code, frame_in}
use Rattle.burr_plantext.specs.Rules.Checks.{has_code}
use Rattle.burr_plantext.specs.Rules.Faults as faults
use Rattle.burr_asm.specs.declared.text.stage.Stage.{Stage}
use Rattle.burr_asm.specs.declared.text.stage.Stage.TheVariants as stage
use Rattle.burr_asm.specs.Views.Exits.{IsSignature, IsExitFor}
use Rattle.burr_asm.specs.Views.Frames.{AreFor}
use Rattle.burr_asm.specs.Views.Routines.{RoutineParts}

-- Lines of code

-- The lines of code among lines, each with its number; the first of all the lines stands at this place.
abbrev pub code_lines : (ℕ → ℕ) → ℕ → List Line → List (ℕ × Statement)
code_lines number place [] = []
code_lines number place (CodeLine s ∷ lines) =
    (number place, s) ∷ code_lines number (suc place) lines
code_lines number place (_ ∷ lines) = code_lines number (suc place) lines

-- Procedures

-- the lines of a procedure, as far as these blocks
abbrev pub lines_of : ProcedureWords → Option ExitSource → List Block → List Line
lines_of h exit blocks = ProcLine h ∷ (some_exit_lines exit ++ flat_map block_lines blocks)

-- The code has this of a procedure whose first line stands at the place `start`.
pub record IsRoutine (number : ℕ → ℕ) (start version : ℕ) (r : RoutineParts)
    (h : ProcedureWords) (exit : Option ExitSource) (blocks : List Block) : Type 0 where
  pub signature : IsSignature r.signature version h
  pub exit_is : r.exit ≡ some_exit_in exit
  pub labels : r.labels ≡ labels_in 0 blocks
  pub size : r.code.size ≡ code_size (block_code blocks)
  pub code : r.code.statements ≡ code_lines number start (lines_of h exit blocks)

-- the same of a procedure that has ended
abbrev pub IsEnded : (ℕ → ℕ) → ℕ → ℕ → RoutineParts → ProcedureSource → Type 0
IsEnded number start version r p =
    IsRoutine number start version r p.head p.exit p.blocks × (r.names ≡ label_names p.blocks)

-- the same of procedures that have ended; the first begins at this place
abbrev pub AreEnded : (ℕ → ℕ) → ℕ → ℕ → List RoutineParts → List ProcedureSource → Type 0
AreEnded number start version [] [] = Unit {0}
AreEnded number start version (r ∷ rs) (p ∷ ps) =
    IsEnded number start version r p
    × AreEnded number (start + length (procedure_lines p)) version rs ps
AreEnded number start version _ _ = ⊥

-- Stages

-- Lines of a procedure that has not ended: which is the next place, where it begins, its plan's
-- version, what the code has of it, and its first line.
module _ (number : ℕ → ℕ) (place start version : ℕ) (r : RoutineParts) (h : ProcedureWords) where
  -- no label yet, and `lines` lines so far
  pub record BeforeLabels (exit : Option ExitSource) (lines : ℕ) : Type 0 where
    pub routine : IsRoutine number start version r h exit []
    pub names : r.names ≡ []
    pub next : place ≡ start + lines

  -- a label after blocks, and `lines` lines so far from the label on
  pub record UnderLabel (exit : Option ExitSource) (blocks : List Block) (label : List ℕ)
      (lines : ℕ) : Type 0 where
    pub routine : IsRoutine number start version r h exit blocks
    pub full : IsTrue (list_all has_code blocks)
    pub names : r.names ≡ label_names blocks ++ label ∷ []
    pub last : r.last ≡ number (start + length (lines_of h exit blocks))
    pub next : place ≡ start + length (lines_of h exit blocks) + lines

  -- after a frame
  pub record AfterFrame (exit : Option ExitSource) (blocks : List Block) (b : Block) : Type 0 where
    pub routine : IsRoutine number start version r h exit (blocks ++ b ∷ [])
    pub full : IsTrue (list_all has_code blocks)
    pub names : r.names ≡ label_names (blocks ++ b ∷ [])
    pub last : r.last ≡ number (place - length (block_lines b))
    pub next : place ≡ start + length (lines_of h exit (blocks ++ b ∷ []))

  -- the stage of the code and that of the rules
  abbrev pub IsStage : Stage → faults.Stage → Type 0
  IsStage stage.AwaitsExit faults.AwaitsExit = BeforeLabels None 1
  IsStage (stage.InExit x) (faults.InExit e) =
      IsExitFor x version h e × BeforeLabels None (1 + length (exit_lines e))
  IsStage stage.AwaitsLabel (faults.AwaitsLabel exit) =
      BeforeLabels exit (length (lines_of h exit []))
  IsStage stage.AwaitsFrame (faults.AwaitsFrame exit blocks label) = UnderLabel exit blocks label 1
  IsStage (stage.InFrame parts) (faults.InFrame exit blocks label c) =
      AreFor parts c × UnderLabel exit blocks label (1 + length (condition_lines c))
  IsStage (stage.AwaitsPieces frame) (faults.InPieces exit blocks label f) =
      (frame ≡ frame_in f) × UnderLabel exit blocks label (1 + length (frame_lines f))
  IsStage stage.InCode (faults.InCode exit blocks b) = AfterFrame exit blocks b
  IsStage s t = ⊥
