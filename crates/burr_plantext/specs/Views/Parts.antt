-- The text of the parts of a listing.
use Rattle.std.specs.Prelude.{ℕ, List, [], ◌∷◌, ◌++◌, map, Option, Some, None}
use Rattle.std.specs.Fmt.{decimal, signed_decimal}
use Rattle.burr_code.specs.declared.placement.Placement.{Placement}
use Rattle.burr_forms.specs.Rules.Forms.{Form}
use Rattle.burr_container.specs.Rules.Plans.{FormCell, Range, Frame, ExitFrame}
use Rattle.burr_plantext.specs.Rules.Lines.{PlanLine, ResultLine, SlotLine, GuardLine, StackLine, AtLine}
use Rattle.burr_plantext.specs.Rules.Sources.{frame_lines, some_exit_lines}
use Rattle.burr_plantext.specs.Rules.Writing.{line_text, text_of}
use Rattle.burr_plantext.specs.Rules.Listing.{form_word, set_word, ends_of, slots_of, spots_of, frame_listed, exit_listed}

-- a tray and a grip after the word of their line and its blank
abbrev pub grip_text : List ℕ → ℕ → ℕ → List ℕ
grip_text word tray set = word ++ (decimal tray ++ (32 ∷ (set_word set ++ 10 ∷ [])))

-- the ends of a range after the words of their line and a blank
abbrev pub range_text : List ℕ → Range → List ℕ
range_text before range =
    before ++ (signed_decimal range.0 ++ (32 ∷ (signed_decimal range.1 ++ 10 ∷ [])))

-- the line of a slot, if it is live
abbrev pub slot_text : ℕ → Option Range → List ℕ
slot_text slot None = []
slot_text slot (Some range) =
    line_text (SlotLine (record { slot = decimal slot; ends = ends_of range }))

-- the lines of slots from one on
abbrev pub slots_text : ℕ → List (Option Range) → List ℕ
slots_text slot slots = text_of (map SlotLine (slots_of slot slots))

-- the lines of guards
abbrev pub guards_text : List Form → List ℕ
guards_text guards = text_of (map GuardLine (map form_word guards))

-- the lines of operands
abbrev pub stack_text : List Form → List ℕ
stack_text stack = text_of (map StackLine (map form_word stack))

-- the lines of pieces from one on
abbrev pub places_text : ℕ → List (Placement FormCell) → List ℕ
places_text piece places = text_of (map AtLine (spots_of piece places))

-- the lines of results
abbrev pub results_text : List Range → List ℕ
results_text results = text_of (map ResultLine (map ends_of results))

-- the lines of a frame
abbrev pub frame_text : Frame → List ℕ
frame_text f = text_of (frame_lines (frame_listed f))

-- the lines of an exit frame, if there is one
abbrev pub exit_text : Option ExitFrame → List ℕ
exit_text exit = text_of (some_exit_lines (exit_listed exit))

-- the plan's line
abbrev pub title_text : ℕ → List ℕ → ℕ → ℕ → List ℕ
title_text version name pieces budget =
    line_text (PlanLine (record {
      version = version;
      name = name;
      pieces = decimal pieces;
      budget = decimal budget;
    }))
