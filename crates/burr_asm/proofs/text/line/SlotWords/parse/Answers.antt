use Rattle.std.proofs.Common.{ℕ, List, ap, ◌∙◌}
use Rattle.burr_plantext.specs.Rules.Lines.{RangeWords, SlotWords}
use Rattle.burr_plantext.specs.Rules.Texts.{words_of}
use Rattle.burr_plantext.specs.Rules.Written.{is_number}
use Rattle.burr_asm.specs.Views.LineWords.{range_between, slot_between}
use Rattle.burr_asm.proofs.LineForms.{mapped, two_mapped}
use Rattle.burr_asm.proofs.Operands.{three_none, three_some}
use Rattle.burr_asm.proofs.text.line.SlotWords.parse.Goals as goal

abbrev in_slot : List ℕ → RangeWords → SlotWords
in_slot slot ends = record { slot = slot; ends = ends }

pub returns-in_err-range : goal.returns-in_err-range
returns-in_err-range c = rw c.from_residual-in_err-range.ensures
    (three_some is_number is_number is_number slot_between (words_of c.args.bytes.now) (words_of c.in_ok-slot.range.now) c.in_ok-slot.slot.bytes.now c.in_ok-slot.ensures
    ∙ two_mapped (in_slot c.in_ok-slot.slot.bytes.now) is_number is_number range_between (words_of c.in_ok-slot.range.now)
    ∙ ap (mapped (in_slot c.in_ok-slot.slot.bytes.now)) c.in_err-range.ensures)

pub returns : goal.returns
returns c =
    three_some is_number is_number is_number slot_between (words_of c.args.bytes.now) (words_of c.in_ok-slot.range.now) c.in_ok-slot.slot.bytes.now c.in_ok-slot.ensures
    ∙ two_mapped (in_slot c.in_ok-slot.slot.bytes.now) is_number is_number range_between (words_of c.in_ok-slot.range.now)
    ∙ ap (mapped (in_slot c.in_ok-slot.slot.bytes.now)) c.in_ok-range.ensures

pub returns-in_err-slot : goal.returns-in_err-slot
returns-in_err-slot c =
    rw c.from_residual.ensures (three_none is_number is_number is_number slot_between (words_of c.args.bytes.now) c.in_err-slot.ensures)
