use Rattle.std.proofs.Common.{ap, ◌∙◌}
use Rattle.burr_container.specs.Rules.Fitting.{is_name_text}
use Rattle.burr_plantext.specs.Rules.Lines.{ExitLine, LabelLine, FrameLine, ResultLine, SlotLine, GuardLine, StackLine, CostLine}
use Rattle.burr_plantext.specs.Rules.Texts.{words_of}
use Rattle.burr_plantext.specs.Rules.Written.{is_form}
use Rattle.burr_plantext.proofs.Common.Blanks.{name_lacks}
use Rattle.burr_asm.proofs.LineForms.{mapped, grip_mapped, result_mapped, slot_mapped, form_lacks}
use Rattle.burr_asm.proofs.Operands.{last_failed, last_passed}
use Rattle.burr_asm.proofs.text.line.LineForm.with_words.Goals as goal

pub returns-in_err-parse-in-Exit : goal.returns-in_err-parse-in-Exit
returns-in_err-parse-in-Exit c = rw (c.from_residual-in_err-parse-in-Exit.ensures, c.in-Exit.is) (grip_mapped ExitLine (words_of c.args.words.now) ∙ ap (mapped ExitLine) c.in_err-parse-in-Exit.ensures)

pub returns-in_ok-parse-in-Exit : goal.returns-in_ok-parse-in-Exit
returns-in_ok-parse-in-Exit c = rw c.in-Exit.is (grip_mapped ExitLine (words_of c.args.words.now) ∙ ap (mapped ExitLine) c.in_ok-parse-in-Exit.ensures)

pub returns-in_err-parse-in-Frame : goal.returns-in_err-parse-in-Frame
returns-in_err-parse-in-Frame c = rw (c.from_residual-in_err-parse-in-Frame.ensures, c.in-Frame.is) (grip_mapped FrameLine (words_of c.args.words.now) ∙ ap (mapped FrameLine) c.in_err-parse-in-Frame.ensures)

pub returns-in_ok-parse-in-Frame : goal.returns-in_ok-parse-in-Frame
returns-in_ok-parse-in-Frame c = rw c.in-Frame.is (grip_mapped FrameLine (words_of c.args.words.now) ∙ ap (mapped FrameLine) c.in_ok-parse-in-Frame.ensures)

pub returns-in_err-parse-in-Result : goal.returns-in_err-parse-in-Result
returns-in_err-parse-in-Result c = rw (c.from_residual-in_err-parse-in-Result.ensures, c.in-Result.is) (result_mapped (words_of c.args.words.now) ∙ ap (mapped ResultLine) c.in_err-parse-in-Result.ensures)

pub returns-in_ok-parse-in-Result : goal.returns-in_ok-parse-in-Result
returns-in_ok-parse-in-Result c = rw c.in-Result.is (result_mapped (words_of c.args.words.now) ∙ ap (mapped ResultLine) c.in_ok-parse-in-Result.ensures)

pub returns-in_err-parse-in-Slot : goal.returns-in_err-parse-in-Slot
returns-in_err-parse-in-Slot c = rw (c.from_residual-in_err-parse-in-Slot.ensures, c.in-Slot.is) (slot_mapped (words_of c.args.words.now) ∙ ap (mapped SlotLine) c.in_err-parse-in-Slot.ensures)

pub returns-in_ok-parse-in-Slot : goal.returns-in_ok-parse-in-Slot
returns-in_ok-parse-in-Slot c = rw c.in-Slot.is (slot_mapped (words_of c.args.words.now) ∙ ap (mapped SlotLine) c.in_ok-parse-in-Slot.ensures)

pub returns-in_err-parse-in-Guard : goal.returns-in_err-parse-in-Guard
returns-in_err-parse-in-Guard c = rw (c.from_residual-in_err-parse-in-Guard.ensures, c.in-Guard.is) (last_failed is_form form_lacks GuardLine c.args.words.now c.in_err-parse-in-Guard.ensures)

pub returns-in_ok-parse-in-Guard : goal.returns-in_ok-parse-in-Guard
returns-in_ok-parse-in-Guard c =
    rw c.in-Guard.is (last_passed is_form form_lacks GuardLine _ _ c.in_ok-parse-in-Guard.ensures.0 c.in_ok-parse-in-Guard.ensures.1)

pub returns-in_err-parse-in-Stack : goal.returns-in_err-parse-in-Stack
returns-in_err-parse-in-Stack c = rw (c.from_residual-in_err-parse-in-Stack.ensures, c.in-Stack.is) (last_failed is_form form_lacks StackLine c.args.words.now c.in_err-parse-in-Stack.ensures)

pub returns-in_ok-parse-in-Stack : goal.returns-in_ok-parse-in-Stack
returns-in_ok-parse-in-Stack c =
    rw c.in-Stack.is (last_passed is_form form_lacks StackLine _ _ c.in_ok-parse-in-Stack.ensures.0 c.in_ok-parse-in-Stack.ensures.1)

pub returns-in_err-parse-in-Cost : goal.returns-in_err-parse-in-Cost
returns-in_err-parse-in-Cost c = rw (c.from_residual-in_err-parse-in-Cost.ensures, c.in-Cost.is) (last_failed is_form form_lacks CostLine c.args.words.now c.in_err-parse-in-Cost.ensures)

pub returns-in_ok-parse-in-Cost : goal.returns-in_ok-parse-in-Cost
returns-in_ok-parse-in-Cost c =
    rw c.in-Cost.is (last_passed is_form form_lacks CostLine _ _ c.in_ok-parse-in-Cost.ensures.0 c.in_ok-parse-in-Cost.ensures.1)

pub returns-in_err-name-in-Label : goal.returns-in_err-name-in-Label
returns-in_err-name-in-Label c = rw (c.from_residual-in_err-name-in-Label.ensures, c.in-Label.is) (last_failed is_name_text name_lacks LabelLine c.args.words.now c.in_err-name-in-Label.ensures)

pub returns-in_ok-name-in-Label : goal.returns-in_ok-name-in-Label
returns-in_ok-name-in-Label c =
    rw c.in-Label.is (last_passed is_name_text name_lacks LabelLine _ _ c.in_ok-name-in-Label.ensures.0 c.in_ok-name-in-Label.ensures.1)
