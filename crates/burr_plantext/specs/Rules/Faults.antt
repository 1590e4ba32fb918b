-- The first fault of a plan text: what each line is, given what the lines before it have been.
use Rattle.std.specs.Prelude.{◌≡◌, ℕ, suc, ◌-◌, List, [], ◌∷◌, ◌++◌, length, Option, Some, None, Result, Ok, Err, Bool, true, false, ◌==◌, codes, if◌then◌else◌}
use Rattle.std.specs.Str.{bytes_eq}
use Rattle.burr_plantext.specs.Rules.Written.{natural_in}
use Rattle.burr_plantext.specs.Rules.Lines.{PlanWords, ProcedureWords, PlanLine, ProcLine, ExitLine, ResultLine, LabelLine, FrameLine, SlotLine, GuardLine, StackLine, CostLine, AtLine, CodeLine}
use Rattle.burr_plantext.specs.Rules.Sources.{ExitSource, Conditions, FrameSource, Block, ProcedureSource, PlanSource, block_lines}
use Rattle.burr_plantext.specs.Rules.Checks.{FaultKind, P1, P2, P4, P5, title_check, is_of_version, head_check, grip_check, piece_check, slot_check, live_in, guard_check, stack_check, cost_check, result_check, exit_guard_check, exit_piece_check, statement_check, has_code, label_check}
use Rattle.burr_plantext.specs.Rules.Right.{conditions, exit_source, unknown_names, first_true}
use Rattle.burr_plantext.specs.Rules.Texts.{LineRead, Reads, Unread, Broken, lines_read, line_number}

-- What the lines so far have been

-- a procedure that has not ended, after those that have
pub record OpenProcedure : Type 0 where
  pub title : PlanWords
  pub ended : List ProcedureSource
  pub head : ProcedureWords

-- a procedure whose first line has been read
abbrev pub open_procedure : PlanWords → List ProcedureSource → ProcedureWords → OpenProcedure
open_procedure title ended head = record { title = title; ended = ended; head = head }

-- what the lines of this procedure have been
pub data Stage : Type 0 where
  -- its exit frame is due
  AwaitsExit : Stage
  -- lines of an exit frame
  InExit : (exit : ExitSource) → Stage
  -- its first label is due
  AwaitsLabel : (exit : Option ExitSource) → Stage
  -- a label after blocks: its frame is due
  AwaitsFrame : (exit : Option ExitSource) (blocks : List Block) (label : List ℕ) → Stage
  -- lines of the frame before its cost
  InFrame : (exit : Option ExitSource) (blocks : List Block) (label : List ℕ) (c : Conditions)
      → Stage
  -- the frame: its pieces are due
  InPieces : (exit : Option ExitSource) (blocks : List Block) (label : List ℕ) (f : FrameSource)
      → Stage
  -- after the frame: code of the last block
  InCode : (exit : Option ExitSource) (blocks : List Block) (last : Block) → Stage

-- what the lines of the text have been
pub data Beginning : Type 0 where
  -- no line yet
  Blank : Beginning
  -- the plan's line: main is due
  Titled : (title : PlanWords) → Beginning
  Within : (under : OpenProcedure) (stage : Stage) → Beginning

-- a refusal, and the place of its line among those that are not skipped
abbrev pub PlacedFault : Type 0
PlacedFault = FaultKind × ℕ

-- what a line gives: the beginning with it, or its first fault
abbrev pub LineResult : Type 0
LineResult = Result Beginning PlacedFault

-- What the next line gives; it stands at a place

-- where nothing is wrong, this beginning
abbrev pub judged : ℕ → Option FaultKind → Beginning → LineResult
judged place None next = Ok next
judged place (Some kind) next = Err (kind, place)

-- where the test does not hold, this fault; else what follows
abbrev pub needing : {A : Type 0} → Bool → PlacedFault → Result A PlacedFault → Result A PlacedFault
needing true fault more = more
needing false fault more = Err fault

-- a line with this word is due, and another stands there
abbrev pub due : ℕ → List ℕ → LineRead → LineResult
due place word (Reads line) = Err (P5, place)
due place word (Unread other) = Err (if bytes_eq other word then P1 else P5, place)
due place word Broken = Err (P1, place)

-- how many pieces the plan is for
abbrev pub piece_count : OpenProcedure → ℕ
piece_count u = natural_in u.title.pieces

-- a line `exit` is due
abbrev pub begins_exit : ℕ → OpenProcedure → LineRead → LineResult
begins_exit place u (Reads (ExitLine grip)) =
    judged place (grip_check (piece_count u) grip) (Within u (InExit (exit_source grip [] [] [])))
begins_exit place u line = Err (P1, place)

-- an exit frame ends with the last piece
abbrev pub with_exit : OpenProcedure → ExitSource → Beginning
with_exit u e =
    if length e.pieces == piece_count u then Within u (AwaitsLabel (Some e))
    else Within u (InExit e)

-- a line of an exit frame
abbrev pub in_exit : ℕ → OpenProcedure → ExitSource → LineRead → LineResult
in_exit place u e (Reads (ResultLine ends)) =
    judged place (result_check u.head e ends)
    (Within u (InExit (record e { results = e.results ++ ends ∷ [] })))
in_exit place u e (Reads (GuardLine form)) =
    judged place (exit_guard_check u.title.version u.head e form)
    (Within u (InExit (record e { guards = e.guards ++ form ∷ [] })))
in_exit place u e (Reads (AtLine piece)) =
    judged place (exit_piece_check u.head e piece)
    (with_exit u (record e { pieces = e.pieces ++ piece ∷ [] }))
in_exit place u e line = Err (P1, place)

-- a procedure's first label is due
abbrev pub first_label : ℕ → OpenProcedure → Option ExitSource → LineRead → LineResult
first_label place u exit (Reads (LabelLine name)) =
    judged place (label_check [] name) (Within u (AwaitsFrame exit [] name))
first_label place u exit line = due place (codes "label") line

-- a label's frame is due
abbrev pub begins_frame : ℕ → OpenProcedure → Option ExitSource → List Block → List ℕ → LineRead
    → LineResult
begins_frame place u exit blocks label (Reads (FrameLine grip)) =
    judged place (grip_check (piece_count u) grip)
    (Within u (InFrame exit blocks label (conditions grip [] [] [])))
begins_frame place u exit blocks label line = due place (codes "frame") line

-- a line of a frame, as far as its cost
abbrev pub in_frame : ℕ → OpenProcedure → Option ExitSource → List Block → List ℕ → Conditions
    → LineRead
    → LineResult
in_frame place u exit blocks label c (Reads (SlotLine slot)) =
    judged place (slot_check c slot)
    (Within u (InFrame exit blocks label (record c { slots = c.slots ++ slot ∷ [] })))
in_frame place u exit blocks label c (Reads (GuardLine form)) =
    judged place (guard_check c form)
    (Within u (InFrame exit blocks label (record c { guards = c.guards ++ form ∷ [] })))
in_frame place u exit blocks label c (Reads (StackLine form)) =
    judged place (stack_check c form)
    (Within u (InFrame exit blocks label (record c { stack = c.stack ++ form ∷ [] })))
in_frame place u exit blocks label c (Reads (CostLine form)) =
    judged place (cost_check c form)
    (Within u (InPieces exit blocks label (record { conditions = c; cost = form; pieces = [] })))
in_frame place u exit blocks label c line = Err (P1, place)

-- a frame ends with the last piece, and code may follow
abbrev pub with_frame : OpenProcedure → Option ExitSource → List Block → List ℕ → FrameSource
    → Beginning
with_frame u exit blocks label f =
    if length f.pieces == piece_count u
    then Within u (InCode exit blocks (record { label = label; frame = f; code = [] }))
    else Within u (InPieces exit blocks label f)

-- a line of the pieces of a frame
abbrev pub in_pieces : ℕ → OpenProcedure → Option ExitSource → List Block → List ℕ → FrameSource
    → LineRead → LineResult
in_pieces place u exit blocks label f (Reads (AtLine piece)) =
    judged place (piece_check (live_in f.conditions) f.pieces piece)
    (with_frame u exit blocks label (record f { pieces = f.pieces ++ piece ∷ [] }))
in_pieces place u exit blocks label f line = Err (P1, place)

-- the procedures with the last one, which ends after this block
abbrev pub ended_with : OpenProcedure → Option ExitSource → List Block → Block
    → List ProcedureSource
ended_with u exit blocks b =
    u.ended ++ record { head = u.head; exit = exit; blocks = blocks ++ b ∷ [] } ∷ []

-- a label without code is refused at its own line
abbrev pub at_label : ℕ → Block → PlacedFault
at_label place b = (P4, place - length (block_lines b))

-- a line after a frame: code, a label or a procedure
abbrev pub in_code : ℕ → OpenProcedure → Option ExitSource → List Block → Block → LineRead
    → LineResult
in_code place u exit blocks b (Reads (CodeLine statement)) =
    judged place (statement_check blocks b.code statement)
    (Within u (InCode exit blocks (record b { code = b.code ++ statement ∷ [] })))
in_code place u exit blocks b (Reads (LabelLine name)) =
    judged place (label_check (blocks ++ b ∷ []) name)
    (Within u (AwaitsFrame exit (blocks ++ b ∷ []) name))
in_code place u exit blocks b (Reads (ProcLine head)) =
    needing (is_of_version u.title.version head.results) (P1, place)
    (needing (has_code b) (at_label place b)
    (judged place (head_check (ended_with u exit blocks b) head)
    (Within (open_procedure u.title (ended_with u exit blocks b) head) AwaitsExit)))
in_code place u exit blocks b line = Err (P1, place)

-- a line of a procedure that has not ended, or of the next one
abbrev pub within : ℕ → OpenProcedure → Stage → LineRead → LineResult
within place u AwaitsExit line = begins_exit place u line
within place u (InExit e) line = in_exit place u e line
within place u (AwaitsLabel exit) line = first_label place u exit line
within place u (AwaitsFrame exit blocks label) line = begins_frame place u exit blocks label line
within place u (InFrame exit blocks label c) line = in_frame place u exit blocks label c line
within place u (InPieces exit blocks label f) line = in_pieces place u exit blocks label f line
within place u (InCode exit blocks b) line = in_code place u exit blocks b line

-- the plan's line is due
abbrev pub titled : ℕ → LineRead → LineResult
titled place (Reads (PlanLine title)) = judged place (title_check title) (Titled title)
titled place line = Err (P1, place)

-- main's line is due
abbrev pub main_begins : ℕ → PlanWords → LineRead → LineResult
main_begins place title (Reads (ProcLine head)) =
    needing (is_of_version title.version head.results) (P1, place)
    (judged place (head_check [] head)
    (Within (open_procedure title [] head) (AwaitsLabel None)))
main_begins place title line = Err (P1, place)

-- The beginning with one more line, or the first fault of that line.
abbrev pub with_line : ℕ → Beginning → LineRead → LineResult
with_line place Blank line = titled place line
with_line place (Titled title) line = main_begins place title line
with_line place (Within u stage) line = within place u stage line

-- The end

-- the end of the text after a line of a procedure
abbrev pub end_within : ℕ → OpenProcedure → Stage → Result PlanSource PlacedFault
end_within place u (AwaitsLabel exit) = Err (P5, place)
end_within place u (AwaitsFrame exit blocks label) = Err (P5, place)
end_within place u (InCode exit blocks b) =
    needing (has_code b) (at_label place b)
    (Ok (record { title = u.title; procedures = ended_with u exit blocks b }))
end_within place u stage = Err (P1, place)

-- The source, where the text ends after this beginning, or the fault of the end.
abbrev pub at_end : ℕ → Beginning → Result PlanSource PlacedFault
at_end place Blank = Err (P1, place)
at_end place (Titled title) = Err (P1, place)
at_end place (Within u stage) = end_within place u stage

-- The text

-- what follows, where there is no fault yet
abbrev pub and_next : {A B : Type 0} → Result A PlacedFault → (A → Result B PlacedFault)
    → Result B PlacedFault
and_next (Ok a) next = next a
and_next (Err fault) next = Err fault

-- what lines give, from this place on, after a beginning
abbrev pub with_lines : ℕ → Beginning → List LineRead → Result PlanSource PlacedFault
with_lines place so_far [] = at_end place so_far
with_lines place so_far (line ∷ lines) =
    and_next (with_line place so_far line) (λ next. with_lines (suc place) next lines)

-- where all else is right, unknown names are looked for
abbrev pub with_known_names : PlanSource → Option ℕ → Result PlanSource PlacedFault
with_known_names s None = Ok s
with_known_names s (Some place) = Err (P2, place)

-- The source that lines are, or their first fault.
abbrev pub judgement : List LineRead → Result PlanSource PlacedFault
judgement lines =
    and_next (with_lines 0 Blank lines) (λ s. with_known_names s (first_true (unknown_names s)))

-- The text has this fault at the line of this number, counted from 1.
pub record HasFault (text : List ℕ) (kind : FaultKind) (line : ℕ) : Type 0 where
  pub place : ℕ
  pub found : judgement (lines_read text) ≡ Err (kind, place)
  pub number : line ≡ line_number text place
