use Rattle.std.proofs.Common.{refl, ◌∙◌}
use Rattle.burr_container.specs.Rules.Fitting.{is_name_text}
use Rattle.burr_plantext.specs.Rules.Operands.{one}
use Rattle.burr_plantext.specs.Rules.Statements.{Ask, Grip, Step, Aside, Jump, Down, Call}
use Rattle.burr_plantext.specs.Rules.Texts.{words_of}
use Rattle.burr_plantext.specs.Rules.Written.{is_number, is_set}
use Rattle.burr_plantext.proofs.Common.Blanks.{name_lacks, number_lacks, set_lacks}
use Rattle.burr_asm.specs.Views.LineWords.{number_words}
use Rattle.burr_asm.proofs.LineForms.{byte_failed, step_failed, step_passed, directed_uncut, directed_failed, directed_passed}
use Rattle.burr_asm.proofs.Operands.{two_some, last_failed, last_passed}
use Rattle.burr_asm.proofs.text.code.CodeLine.with_operands.Goals as goal

pub returns-in_err-parse-in-Number : goal.returns-in_err-parse-in-Number
returns-in_err-parse-in-Number c =
    rw (c.from_residual.ensures, c.in-Number.is)
    (last_failed is_number number_lacks (number_words c.in-Number.keyword) c.args.words.now c.in_err-parse-in-Number.ensures)

pub returns-in_ok-parse-in-Number : goal.returns-in_ok-parse-in-Number
returns-in_ok-parse-in-Number c =
    rw c.in-Number.is
    (last_passed is_number number_lacks (number_words c.in-Number.keyword) _ _ c.in_ok-parse-in-Number.ensures.0 c.in_ok-parse-in-Number.ensures.1)

pub returns-in_err-parse-in-Ask : goal.returns-in_err-parse-in-Ask
returns-in_err-parse-in-Ask c =
    rw (c.from_residual-in_err-parse-in-Ask.ensures, c.in-Ask.is)
    (two_some is_number is_number Ask (words_of c.args.words.now) _ _ c.in_ok-low-in-Ask.ensures
    ∙ last_failed is_number number_lacks (Ask c.in_ok-low-in-Ask.low.bytes.now) c.in_ok-low-in-Ask.high.now c.in_err-parse-in-Ask.ensures)

pub returns-in_ok-parse-in-Ask : goal.returns-in_ok-parse-in-Ask
returns-in_ok-parse-in-Ask c =
    rw c.in-Ask.is
    (two_some is_number is_number Ask (words_of c.args.words.now) _ _ c.in_ok-low-in-Ask.ensures
    ∙ last_passed is_number number_lacks (Ask c.in_ok-low-in-Ask.low.bytes.now) _ _ c.in_ok-parse-in-Ask.ensures.0 c.in_ok-parse-in-Ask.ensures.1)

pub returns-in_err-parse-in-Grip : goal.returns-in_err-parse-in-Grip
returns-in_err-parse-in-Grip c =
    rw (c.from_residual-in_err-parse-in-Grip.ensures, c.in-Grip.is)
    (last_failed is_set set_lacks Grip c.args.words.now c.in_err-parse-in-Grip.ensures)

pub returns-in_ok-parse-in-Grip : goal.returns-in_ok-parse-in-Grip
returns-in_ok-parse-in-Grip c =
    rw c.in-Grip.is
    (last_passed is_set set_lacks Grip _ _ c.in_ok-parse-in-Grip.ensures.0 c.in_ok-parse-in-Grip.ensures.1)

pub returns-in_err-named-in-Step : goal.returns-in_err-named-in-Step
returns-in_err-named-in-Step c =
    rw (c.from_residual-in_err-named-in-Step.ensures, c.in-Step.is)
    (step_failed Step _ c.in_err-named-in-Step.ensures)

pub returns-in_ok-named-in-Step : goal.returns-in_ok-named-in-Step
returns-in_ok-named-in-Step c = rw c.in-Step.is (step_passed Step _ _ c.in_ok-named-in-Step.ensures)

pub returns-in_err-word-in-Aside : goal.returns-in_err-word-in-Aside
returns-in_err-word-in-Aside c =
    rw (c.from_residual-in_err-word-in-Aside.ensures, c.in-Aside.is)
    (directed_uncut (λ d. one is_number (Aside d)) _ c.in_err-word-in-Aside.ensures (λ d. refl))

pub returns-in_err-direction-in-Aside : goal.returns-in_err-direction-in-Aside
returns-in_err-direction-in-Aside c =
    rw (c.from_residual-in_err-direction-in-Aside.ensures, c.in-Aside.is)
    (directed_failed (λ d. one is_number (Aside d)) _ _ _ c.in_ok-word-in-Aside.ensures c.in_err-direction-in-Aside.ensures)

pub returns-in_err-parse-in-Aside : goal.returns-in_err-parse-in-Aside
returns-in_err-parse-in-Aside c =
    rw (c.from_residual-in_err-parse-in-Aside.ensures, c.in-Aside.is)
    (directed_passed (λ d. one is_number (Aside d)) _ _ _ _ c.in_ok-word-in-Aside.ensures c.in_ok-direction-in-Aside.ensures
    ∙ last_failed is_number number_lacks (Aside c.in_ok-direction-in-Aside.direction) c.in_ok-word-in-Aside.tray.now c.in_err-parse-in-Aside.ensures)

pub returns-in_ok-parse-in-Aside : goal.returns-in_ok-parse-in-Aside
returns-in_ok-parse-in-Aside c =
    rw c.in-Aside.is
    (directed_passed (λ d. one is_number (Aside d)) _ _ _ _ c.in_ok-word-in-Aside.ensures c.in_ok-direction-in-Aside.ensures
    ∙ last_passed is_number number_lacks (Aside c.in_ok-direction-in-Aside.direction) _ _ c.in_ok-parse-in-Aside.ensures.0 c.in_ok-parse-in-Aside.ensures.1)

pub returns-in_err-name-in-Jump : goal.returns-in_err-name-in-Jump
returns-in_err-name-in-Jump c =
    rw (c.from_residual-in_err-name-in-Jump.ensures, c.in-Jump.is)
    (last_failed is_name_text name_lacks Jump c.args.words.now c.in_err-name-in-Jump.ensures)

pub returns-in_ok-name-in-Jump : goal.returns-in_ok-name-in-Jump
returns-in_ok-name-in-Jump c =
    rw c.in-Jump.is
    (last_passed is_name_text name_lacks Jump _ _ c.in_ok-name-in-Jump.ensures.0 c.in_ok-name-in-Jump.ensures.1)

pub returns-in_err-name-in-Down : goal.returns-in_err-name-in-Down
returns-in_err-name-in-Down c =
    rw (c.from_residual-in_err-name-in-Down.ensures, c.in-Down.is)
    (two_some is_number is_name_text Down (words_of c.args.words.now) _ _ c.in_ok-slot-in-Down.ensures
    ∙ last_failed is_name_text name_lacks (Down c.in_ok-slot-in-Down.slot.bytes.now) c.in_ok-slot-in-Down.label.now c.in_err-name-in-Down.ensures)

pub returns-in_ok-name-in-Down : goal.returns-in_ok-name-in-Down
returns-in_ok-name-in-Down c =
    rw c.in-Down.is
    (two_some is_number is_name_text Down (words_of c.args.words.now) _ _ c.in_ok-slot-in-Down.ensures
    ∙ last_passed is_name_text name_lacks (Down c.in_ok-slot-in-Down.slot.bytes.now) _ _ c.in_ok-name-in-Down.ensures.0 c.in_ok-name-in-Down.ensures.1)

pub returns-in_err-name-in-Call : goal.returns-in_err-name-in-Call
returns-in_err-name-in-Call c =
    rw (c.from_residual-in_err-name-in-Call.ensures, c.in-Call.is)
    (last_failed is_name_text name_lacks Call c.args.words.now c.in_err-name-in-Call.ensures)

pub returns-in_ok-name-in-Call : goal.returns-in_ok-name-in-Call
returns-in_ok-name-in-Call c =
    rw c.in-Call.is
    (last_passed is_name_text name_lacks Call _ _ c.in_ok-name-in-Call.ensures.0 c.in_ok-name-in-Call.ensures.1)

pub returns-in_err-hex_byte-in-Byte : goal.returns-in_err-hex_byte-in-Byte
returns-in_err-hex_byte-in-Byte c =
    rw (c.from_residual-in_err-hex_byte-in-Byte.ensures, c.in-Byte.is)
    (byte_failed c.args.words.now c.in_err-hex_byte-in-Byte.ensures)
