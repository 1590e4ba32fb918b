-- What the code makes of a line of a label's frame is what the rules say.
use Rattle.std.proofs.Common.{◌≡◌, inr, ℕ, suc, ◌+◌, ◌==◌, Bool, true, false, true≢false, List, [], ◌∷◌, ◌++◌, length, Option, None, refl, sym, ap, subst, ◌∙◌, arith}
use Rattle.std.specs.Prelude.{Result, Ok, Err, MatchResult, if◌then◌else◌}
use Rattle.std.proofs.lemmas.Bool.{eq-eqb, ne_eqb}
use Rattle.std.proofs.lemmas.Option.{none-some}
use Rattle.burr_container.specs.Rules.Plans.{Frame}
use Rattle.burr_plantext.specs.Rules.Lines.{Line, GripWords, PieceWords, FrameLine, SlotLine, GuardLine, CostLine, StackLine, AtLine}
use Rattle.burr_plantext.specs.Rules.Sources.{ExitSource, Conditions, FrameSource, Block, condition_lines, frame_lines}
use Rattle.burr_plantext.specs.Rules.Meaning.{frame_in}
use Rattle.burr_plantext.specs.Rules.Checks.{FaultKind, P1, P5, grip_check, piece_check, live_in, cost_check}
use Rattle.burr_plantext.specs.Rules.Right.{conditions}
use Rattle.burr_plantext.specs.Rules.Faults as rules
use Rattle.burr_plantext.specs.Rules.Faults.{OpenProcedure, Beginning, Within, PlacedFault, LineResult, judged, piece_count, end_within}
use Rattle.burr_asm.specs.declared.fault.AsmFault.{AsmFault}
use Rattle.burr_asm.specs.declared.fault.AsmFault.TheVariants as fault
use Rattle.burr_asm.specs.declared.text.stage.Stage.TheVariants.{AwaitsFrame, InFrame, AwaitsPieces, InCode}
use Rattle.burr_asm.specs.declared.text.form.FormWord.{FormWord}
use Rattle.burr_asm.specs.declared.text.line.GripWords.{GripWords as GripParts}
use Rattle.burr_asm.specs.declared.text.line.PieceWords.{PieceWords as PieceParts}
use Rattle.burr_asm.specs.declared.text.line.LineForm.{LineForm}
use Rattle.burr_asm.specs.declared.text.line.LineForm.TheVariants as form
use Rattle.burr_asm.specs.Views.Faults.{IsRefusal}
use Rattle.burr_asm.specs.Views.Frames.{ConditionParts, AreFor, condition_check, with_condition}
use Rattle.burr_asm.specs.Views.FrameLines.{costed, with_piece, AddsCondition}
use Rattle.burr_asm.specs.Views.LineWords.{line_words}
use Rattle.burr_asm.specs.Views.Routines.{RoutineParts, with_frame}
use Rattle.burr_asm.specs.Views.Beginnings.{AfterFrame}
use Rattle.burr_asm.specs.Views.Fronts.{start_of, within_one, IsNextStage}
use Rattle.burr_asm.specs.Views.Steps.{GivesStage, GivesInAny}
use Rattle.burr_asm.proofs.StagePlaces.{bare_block, conditions_length, frame_length, one_longer}
use Rattle.burr_asm.proofs.StageLines.{grip_check_is, whole_is, refused_by, given, giving, judge, passes, under_more, after_frame}

-- The frame of a label

-- a grip, with which the frame begins
pub frame_given : (pieces : ℕ) (grip : GripWords) (n : ℕ) (result : Result ConditionParts AsmFault)
    → MatchResult result (λ c. (grip_check pieces grip ≡ None) × AreFor c (conditions grip [] [] []))
    (IsRefusal (grip_check pieces grip) n)
    → (r : RoutineParts) → GivesStage AwaitsFrame r pieces (FrameLine grip) n r (giving InFrame result)
frame_given pieces grip n result h r number place u (rules.AwaitsFrame exit blocks label) many line at =
    judge number place n u r (grip_check pieces grip) (grip_check (piece_count u) grip) InFrame (rules.InFrame exit blocks label (conditions grip [] [] []))
    (λ c. AreFor c (conditions grip [] [] [])) result line (grip_check_is pieces u grip many) h
    (λ c passed is. (
      is,
      under_more number place (start_of u) u.title.version r u.head exit blocks label 1 (1 + length (condition_lines (conditions grip [] [] []))) (omega arith) at,
    ))
frame_given pieces grip n result h r number place u t many line at = absurd at

-- another line, where a frame is due
pub other_begins : (f : LineForm) (pieces n : ℕ) → ((x : GripParts) → f ≡ form.Frame x → ⊥)
    → (r : RoutineParts) → GivesStage AwaitsFrame r pieces (line_words f) n r (Err (fault.P5 n))
other_begins f pieces n other r number place u (rules.AwaitsFrame exit blocks label) many is at =
    inr ((P5, place), by f other, ap fault.P5 is)
  where
    by : (f : LineForm) → ((x : GripParts) → f ≡ form.Frame x → ⊥) → within_one place u (rules.AwaitsFrame exit blocks label) (line_words f) ≡ Err (P5, place)
    by (form.Frame x) h = absurd (h x refl)
    by f h = refl
other_begins f pieces n other r number place u t many is at = absurd at

condition_longer : (c : Conditions) (line : Line) → condition_check c line ≡ None
    → length (condition_lines (with_condition c line)) ≡ suc (length (condition_lines c))
condition_longer c (SlotLine slot) e =
    omega (arith, conditions_length c, conditions_length (with_condition c (SlotLine slot)), one_longer c.slots slot)
condition_longer c (GuardLine form) e =
    omega (arith, conditions_length c, conditions_length (with_condition c (GuardLine form)), one_longer c.guards form)
condition_longer c (StackLine form) e =
    omega (arith, conditions_length c, conditions_length (with_condition c (StackLine form)), one_longer c.stack form)
condition_longer c line e = absurd (none-some P1 (sym e))

judged_condition : (place : ℕ) (u : OpenProcedure) (exit : Option ExitSource) (blocks : List Block)
    (label : List ℕ) (c : Conditions) (f : LineForm) → ((x : FormWord) → f ≡ form.Cost x → ⊥)
    → within_one place u (rules.InFrame exit blocks label c) (line_words f)
    ≡ judged place (condition_check c (line_words f)) (Within u (rules.InFrame exit blocks label (with_condition c (line_words f))))
judged_condition place u exit blocks label c (form.Cost x) other = absurd (other x refl)
judged_condition place u exit blocks label c f other = refl

-- a line before the cost
pub condition_given : {A : Type 0} (c new : ConditionParts) (f : LineForm) (n : ℕ)
    (result : Result A AsmFault) → ((x : FormWord) → f ≡ form.Cost x → ⊥)
    → AddsCondition c (line_words f) n new result
    → (r : RoutineParts) → GivesInAny (InFrame c) r (line_words f) n r (giving (λ x. InFrame new) result)
condition_given c new f n result other adds r number place u (rules.InFrame exit blocks label d) is at =
    let line = line_words f in
    let t = rules.InFrame exit blocks label (with_condition d line) in
    subst (λ (given : LineResult). IsNextStage number place u r given (giving (λ x. InFrame new) result))
    (sym (judged_condition place u exit blocks label d f other))
    (judge number place n u r (condition_check d line) (condition_check d line) (λ x. InFrame new) t (λ x. AreFor new (with_condition d line)) result is refl (adds d at.0)
    (λ x passed are. (
      are,
      under_more number place (start_of u) u.title.version r u.head exit blocks label (1 + length (condition_lines d)) (1 + length (condition_lines (with_condition d line))) (let longer = condition_longer d line passed in omega (arith, longer)) at.1,
    )))
condition_given c new f n result other adds r number place u t is at = absurd at

-- the cost
pub cost_given : (c : ConditionParts) (form : List ℕ) (n : ℕ) (result : Result Frame AsmFault)
    → ((d : Conditions) → AreFor c d
    → MatchResult result (λ frame. (cost_check d form ≡ None) × (frame ≡ frame_in (costed d form))) (IsRefusal (cost_check d form) n))
    → (r : RoutineParts) → GivesInAny (InFrame c) r (CostLine form) n r (giving AwaitsPieces result)
cost_given c form n result adds r number place u (rules.InFrame exit blocks label d) line at =
    let long = frame_length (costed d form) in
    judge number place n u r (cost_check d form) (cost_check d form) AwaitsPieces (rules.InPieces exit blocks label (costed d form)) (λ frame. frame ≡ frame_in (costed d form)) result line refl (adds d at.0)
    (λ frame passed is. (
      is,
      under_more number place (start_of u) u.title.version r u.head exit blocks label (1 + length (condition_lines d)) (1 + length (frame_lines (costed d form))) (omega (arith, long)) at.1,
    ))
cost_given c form n result adds r number place u t line at = absurd at

-- Pieces

-- a piece that is refused
pub piece_refused : (frame : Frame) (old new : RoutineParts) (pieces : ℕ) (p : PieceWords) (n : ℕ)
    (e : AsmFault)
    → ((f : FrameSource) → frame ≡ frame_in f
    → IsRefusal (piece_check (live_in f.conditions) f.pieces p) n e)
    → GivesStage (AwaitsPieces frame) old pieces (AtLine p) n new (Err e)
piece_refused frame old new pieces p n e fails number place u (rules.InPieces exit blocks label f) many line at =
    refused_by number place n (piece_check (live_in f.conditions) f.pieces p) (rules.with_frame u exit blocks label (with_piece f p)) e line (fails f at.0)
piece_refused frame old new pieces p n e fails number place u t many line at = absurd at

piece_longer : (f : FrameSource) (p : PieceWords)
    → length (frame_lines (with_piece f p)) ≡ suc (length (frame_lines f))
piece_longer f p =
    omega (arith, frame_length f, frame_length (with_piece f p), one_longer f.pieces p)

-- what a piece more has to do with the frame
abbrev pub AddsPiece : Frame → Frame → PieceWords → Type 0
AddsPiece old new p =
    (f : FrameSource) → old ≡ frame_in f
    → (piece_check (live_in f.conditions) f.pieces p ≡ None) × (new ≡ frame_in (with_piece f p))

-- a piece, after which others are due
pub piece_added : (frame next : Frame) (r : RoutineParts) (pieces : ℕ) (p : PieceWords) (n : ℕ)
    → AddsPiece frame next p → (length next.places == pieces) ≡ false
    → GivesStage (AwaitsPieces frame) r pieces (AtLine p) n r (Ok (AwaitsPieces next))
piece_added frame next r pieces p n adds part number place u (rules.InPieces exit blocks label f) many line at =
    let added = adds f at.0 in
    let longer = piece_longer f p in
    let test = whole_is next.places (f.pieces ++ p ∷ []) pieces u false (ap (λ (f : Frame). f.places) added.1) many part in
    let whole : Beginning = Within u (rules.InCode exit blocks (bare_block label (with_piece f p))) in
    let going : Beginning = Within u (rules.InPieces exit blocks label (with_piece f p)) in (
      rules.InPieces exit blocks label (with_piece f p),
      passes place (piece_check (live_in f.conditions) f.pieces p) (rules.with_frame u exit blocks label (with_piece f p)) added.0
          ∙ ap (λ (t : Bool). given (if t then whole else going)) test,
      (
        added.1,
        under_more number place (start_of u) u.title.version r u.head exit blocks label (1 + length (frame_lines f)) (1 + length (frame_lines (with_piece f p))) (omega (arith, longer)) at.1,
      ),
    )
piece_added frame next r pieces p n adds part number place u t many line at = absurd at

-- the last piece
pub piece_last : (frame next : Frame) (old new : RoutineParts) (pieces : ℕ) (p : PieceWords) (n : ℕ)
    → AddsPiece frame next p → (length next.places == pieces) ≡ true → new ≡ with_frame old next
    → GivesStage (AwaitsPieces frame) old pieces (AtLine p) n new (Ok InCode)
piece_last frame next old new pieces p n adds all is number place u (rules.InPieces exit blocks label f) many line at =
    let added = adds f at.0 in
    let longer = piece_longer f p in
    let test = whole_is next.places (f.pieces ++ p ∷ []) pieces u true (ap (λ (f : Frame). f.places) added.1) many all in
    let whole : Beginning = Within u (rules.InCode exit blocks (bare_block label (with_piece f p))) in
    let going : Beginning = Within u (rules.InPieces exit blocks label (with_piece f p)) in (
      rules.InCode exit blocks (bare_block label (with_piece f p)),
      passes place (piece_check (live_in f.conditions) f.pieces p) (rules.with_frame u exit blocks label (with_piece f p)) added.0
          ∙ ap (λ (t : Bool). given (if t then whole else going)) test,
      subst (λ (r : RoutineParts). AfterFrame number (suc place) (start_of u) u.title.version r u.head exit blocks (bare_block label (with_piece f p))) (sym is)
          (after_frame number place (start_of u) u.title.version old u.head exit blocks label (with_piece f p) next (1 + length (frame_lines f)) at.1 added.1 (omega (arith, longer))),
    )
piece_last frame next old new pieces p n adds all is number place u t many line at = absurd at

-- another line, where a piece is due
pub other_pieces : (f : LineForm) (frame : Frame) (old new : RoutineParts) (pieces n : ℕ)
    → ((x : PieceParts) → f ≡ form.At x → ⊥)
    → GivesStage (AwaitsPieces frame) old pieces (line_words f) n new (Err (fault.P1 n))
other_pieces f frame old new pieces n other number place u (rules.InPieces exit blocks label source) many is at =
    inr ((P1, place), by f other, ap fault.P1 is)
  where
    by : (f : LineForm) → ((x : PieceParts) → f ≡ form.At x → ⊥) → within_one place u (rules.InPieces exit blocks label source) (line_words f) ≡ Err (P1, place)
    by (form.At x) h = absurd (h x refl)
    by f h = refl
other_pieces f frame old new pieces n other number place u t many is at = absurd at

-- Tests of numbers that are others

pub are_other : (a b n m : ℕ) → a ≡ n → b ≡ m → (a ≡ b → ⊥) → (n == m) ≡ false
are_other a b n m e f h = ne_eqb n m (λ same. h (e ∙ same ∙ sym f))

pub are_same : (a b n m : ℕ) → a ≡ n → b ≡ m → a ≡ b → (n == m) ≡ true
are_same a b n m e f same = eq-eqb n m (sym e ∙ same ∙ f)
