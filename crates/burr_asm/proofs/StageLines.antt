-- What is refused of a line, and what a line below a label adds to a procedure.
use Rattle.std.proofs.Common.{◌≡◌, inl, inr, ℕ, suc, ◌+◌, ◌-◌, ◌==◌, Bool, IsTrue, List, [], ◌∷◌, ◌++◌, length, Option, Some, None, refl, sym, ap, subst, ◌∙◌, arith}
use Rattle.std.specs.Prelude.{Result, Ok, Err, MatchResult}
use Rattle.std.specs.List.{list_all}
use Rattle.std.proofs.lemmas.List.{length-map}
use Rattle.burr_container.specs.Rules.Plans.{Frame, ExitFrame, FormCell}
use Rattle.burr_code.specs.declared.placement.Placement.{Placement}
use Rattle.burr_plantext.specs.Rules.Written.{natural_in}
use Rattle.burr_plantext.specs.Rules.Statements.{Statement}
use Rattle.burr_plantext.specs.Rules.Lines.{ProcedureWords, GripWords, PieceWords}
use Rattle.burr_plantext.specs.Rules.Sources.{ExitSource, FrameSource, Block, exit_lines, frame_lines, block_lines}
use Rattle.burr_plantext.specs.Rules.Meaning.{label_names, frame_in, place_in, places_in, exit_in}
use Rattle.burr_plantext.specs.Rules.Checks.{FaultKind, has_code, grip_check}
use Rattle.burr_plantext.specs.Rules.Faults as rules
use Rattle.burr_plantext.specs.Rules.Faults.{OpenProcedure, Beginning, Within, LineResult, judged, piece_count}
use Rattle.burr_asm.specs.declared.fault.AsmFault.{AsmFault}
use Rattle.burr_asm.specs.Views.CodeParts.{with_statement}
use Rattle.burr_asm.specs.Rules.Faults.{fault_at}
use Rattle.burr_asm.specs.Views.Faults.{IsRefusal}
use Rattle.burr_asm.specs.Views.Routines.{RoutineParts, with_label, with_frame}
use Rattle.burr_asm.specs.Views.Beginnings.{IsRoutine, BeforeLabels, UnderLabel, AfterFrame, lines_of}
use Rattle.burr_asm.specs.Views.Fronts.{IsFaultOf, IsNextStage}
use Rattle.burr_asm.specs.Views.Steps.{IsStageOf}
use Rattle.burr_asm.specs.declared.text.stage.Stage.{Stage}
use Rattle.burr_asm.proofs.StagePlaces.{bare_block, with_code, length_more, length_longer, block_length, bare_length, begun_length, begun_lacks, code_longer, code_bare}
use Rattle.burr_asm.proofs.StageLabels.{size_longer, size_bare, labels_more, labels_longer, names_more, names_longer}

-- Refusals

-- what is refused of a line is its fault, where the rules judge it by the same check
pub refused : (number : ℕ → ℕ) (place n : ℕ) (check : Option FaultKind) (line : LineResult)
    (next : Beginning) (e : AsmFault) → n ≡ number place → line ≡ judged place check next
    → IsRefusal check n e → IsFaultOf number line e
refused number place n check line next e at_line is (inl memory) = inl memory
refused number place n check line next e at_line is (inr (kind, found, at)) = inr (
  (kind, place),
  is ∙ ap (λ (c : Option FaultKind). judged place c next) found,
  at ∙ ap (fault_at kind) at_line,
)

-- the same where they judge it so by definition
pub refused_by : (number : ℕ → ℕ) (place n : ℕ) (check : Option FaultKind) (next : Beginning)
    (e : AsmFault) → n ≡ number place → IsRefusal check n e
    → IsFaultOf number (judged place check next) e
refused_by number place n check next e at_line fails =
    refused number place n check (judged place check next) next e at_line refl fails

-- a beginning that is right
abbrev pub given : Beginning → LineResult
given b = Ok b

-- where nothing is wrong
pub passes : (place : ℕ) (check : Option FaultKind) (next : Beginning) → check ≡ None
    → judged place check next ≡ Ok next
passes place check next e = ap (λ (c : Option FaultKind). judged place c next) e

-- the stage that is made of what a line gives, or the line's fault
abbrev pub giving : {A : Type 0} → (A → Stage) → Result A AsmFault → Result Stage AsmFault
giving stage (Ok x) = Ok (stage x)
giving stage (Err e) = Err e

-- A line that the code and the rules judge by checks that are the same goes on to stages that are.
pub judge : {A : Type 0} (number : ℕ → ℕ) (place n : ℕ) (u : OpenProcedure) (r : RoutineParts)
    (asked check : Option FaultKind) (stage : A → Stage) (t : rules.Stage) (P : A → Type 0)
    (result : Result A AsmFault) → n ≡ number place → asked ≡ check
    → MatchResult result (λ x. (asked ≡ None) × P x) (IsRefusal asked n)
    → ((x : A) → check ≡ None → P x → IsStageOf number (suc place) u r (stage x) t)
    → IsNextStage number place u r (judged place check (Within u t)) (giving stage result)
judge number place n u r asked check stage t P (Ok x) line same (none, is) goes =
    let passed : check ≡ None = sym same ∙ none in
    (t, passes place check (Within u t) passed, goes x passed is)
judge number place n u r asked check stage t P (Err e) line same fails goes =
    refused_by number place n check (Within u t) e line (subst (λ (c : Option FaultKind). IsRefusal c n e) same fails)

-- The lines below a label

module _ (number : ℕ → ℕ) (place start version : ℕ) (r : RoutineParts) (h : ProcedureWords) where
  -- one line more
  pub under_more : (exit : Option ExitSource) (blocks : List Block) (label : List ℕ) (lines next : ℕ)
      → next ≡ suc lines → UnderLabel number place start version r h exit blocks label lines
      → UnderLabel number (suc place) start version r h exit blocks label next
  under_more exit blocks label lines next e under = record {
    routine = under.routine;
    full = under.full;
    names = under.names;
    last = under.last;
    next = omega (arith, e, under.next);
  }

  -- a label after blocks
  pub under_label : (exit : Option ExitSource) (blocks : List Block) (name : List ℕ) (n : ℕ)
      → IsRoutine number start version r h exit blocks → IsTrue (list_all has_code blocks)
      → r.names ≡ label_names blocks → n ≡ number place
      → place ≡ start + length (lines_of h exit blocks)
      → UnderLabel number (suc place) start version (with_label r name n) h exit blocks name 1
  under_label exit blocks name n routine full names line next = record {
    routine = record { signature = routine.signature; exit_is = routine.exit_is; labels = routine.labels; size = routine.size; code = routine.code };
    full = full;
    names = ap (λ (ns : List (List ℕ)). ns ++ name ∷ []) names;
    last = line ∙ ap number next;
    next = omega (arith, next);
  }

  -- the last piece ends the frame of the label
  pub after_frame : (exit : Option ExitSource) (blocks : List Block) (label : List ℕ) (f : FrameSource)
      (frame : Frame) (lines : ℕ)
      → UnderLabel number place start version r h exit blocks label lines
      → frame ≡ frame_in f → suc lines ≡ suc (length (frame_lines f))
      → AfterFrame number (suc place) start version (with_frame r frame) h exit blocks
      (bare_block label f)
  after_frame exit blocks label f frame lines under is long =
      let whole = length_more h exit blocks (bare_block label f) in
      let bare = bare_length label f in
      let back : start + length (lines_of h exit blocks)
      ≡ suc place - length (block_lines (bare_block label f)) =
      omega (arith, under.next, long, bare) in
      record {
        routine = record {
          signature = under.routine.signature;
          exit_is = under.routine.exit_is;
          labels =
              (λ j. under.routine.labels j ++ (under.routine.size j, is j) ∷ [])
              ∙ sym (labels_more blocks (bare_block label f));
          size = under.routine.size ∙ size_bare blocks label f;
          code = under.routine.code ∙ sym (code_bare number start h exit blocks label f);
        };
        full = under.full;
        names = under.names ∙ sym (names_more blocks (bare_block label f));
        last = under.last ∙ ap number back;
        next = omega (arith, under.next, long, bare, whole);
      }

  -- a statement after a frame
  pub after_code : (exit : Option ExitSource) (blocks : List Block) (b : Block) (n : ℕ)
      (w : Statement)
      → AfterFrame number place start version r h exit blocks b → n ≡ number place
      → AfterFrame number (suc place) start version
      (record r { code = with_statement r.code n w }) h exit blocks (with_code b w)
  after_code exit blocks b n w after line =
      let long = block_length b w in
      let whole = length_longer h exit blocks b w in
      let back : place - length (block_lines b)
      ≡ suc place - length (block_lines (with_code b w)) =
      omega (arith, long) in
      record {
        routine = record {
          signature = after.routine.signature;
          exit_is = after.routine.exit_is;
          labels = after.routine.labels ∙ labels_longer blocks b w;
          size = size_longer blocks b w r.code.size after.routine.size;
          code =
              ap (λ (code : List (ℕ × Statement)). code ++ (n, w) ∷ []) after.routine.code
              ∙ code_longer number start place h exit blocks b n w after.next line;
        };
        full = after.full;
        names = after.names ∙ names_longer blocks b w;
        last = after.last ∙ ap number back;
        next = omega (arith, after.next, whole);
      }

  -- before the first label, one line more of the exit frame
  pub before_more : (lines next : ℕ) → next ≡ suc lines
      → BeforeLabels number place start version r h None lines
      → BeforeLabels number (suc place) start version r h None next
  before_more lines next e before = record {
    routine = before.routine;
    names = before.names;
    next = omega (arith, e, before.next);
  }

  -- the exit frame is whole
  pub before_labels : (e : ExitSource) (frame : ExitFrame) (lines : ℕ) → frame ≡ exit_in e
      → suc lines ≡ 1 + length (exit_lines e)
      → BeforeLabels number place start version r h None lines
      → BeforeLabels number (suc place) start version (record r { exit = Some frame }) h (Some e)
      (length (lines_of h (Some e) []))
  before_labels e frame lines is long before =
      let whole = begun_length h (Some e) in
      record {
        routine = record {
          signature = before.routine.signature;
          exit_is = ap (λ (x : ExitFrame). Some x) is;
          labels = before.routine.labels;
          size = before.routine.size;
          code =
              before.routine.code ∙ begun_lacks h None number start
              ∙ sym (begun_lacks h (Some e) number start);
        };
        names = before.names;
        next = omega (arith, before.next, long, whole);
      }

-- Grips and places

-- the check of a grip in the plan
pub grip_check_is : (pieces : ℕ) (u : OpenProcedure) (grip : GripWords)
    → pieces ≡ natural_in u.title.pieces → grip_check pieces grip ≡ grip_check (piece_count u) grip
grip_check_is pieces u grip e = ap (λ (k : ℕ). grip_check k grip) e

-- as many places as there are pieces in the source
pub places_are : (places : List (Placement FormCell)) (pieces : List PieceWords)
    → places ≡ places_in pieces → length places ≡ length pieces
places_are places pieces e =
    ap (λ (ps : List (Placement FormCell)). length ps) e
    ∙ length-map pieces (λ (piece : PieceWords). place_in piece.spot)

-- whether the frame is whole
pub whole_is : (places : List (Placement FormCell)) (sources : List PieceWords) (pieces : ℕ)
    (u : OpenProcedure) (t : Bool) → places ≡ places_in sources
    → pieces ≡ natural_in u.title.pieces → (length places == pieces) ≡ t
    → (length sources == piece_count u) ≡ t
whole_is places sources pieces u t is many e =
    let long = places_are places sources is in
    (λ j. sym long j == sym many j) ∙ e
