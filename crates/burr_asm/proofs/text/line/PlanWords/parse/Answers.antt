use Rattle.std.proofs.Common.{ℕ, List, ◌∙◌}
use Rattle.burr_container.specs.Rules.Fitting.{is_name_text}
use Rattle.burr_plantext.specs.Rules.Lines.{Line, PlanLine}
use Rattle.burr_plantext.specs.Rules.Texts.{words_of}
use Rattle.burr_plantext.specs.Rules.Written.{is_number}
use Rattle.burr_plantext.proofs.Common.Blanks.{number_lacks}
use Rattle.burr_asm.proofs.Operands.{two_none, two_some, three_some, last_failed, last_passed}
use Rattle.burr_asm.proofs.text.line.PlanWords.parse.Goals as goal

abbrev title : ℕ → List ℕ → List ℕ → List ℕ → Line
title version name pieces budget = PlanLine (record { version = version; name = name; pieces = pieces; budget = budget })

pub returns-in_err-pieces : goal.returns-in_err-pieces
returns-in_err-pieces c = rw c.from_residual-in_err-pieces.ensures
    (three_some is_name_text is_number is_number (title c.args.version) (words_of c.args.bytes.now) (words_of c.in_ok-name.rest.now) c.in_ok-name.name.now c.in_ok-name.ensures
    ∙ two_none is_number is_number (title c.args.version c.in_ok-name.name.now) (words_of c.in_ok-name.rest.now) c.in_err-pieces.ensures)

pub returns-in_err-budget : goal.returns-in_err-budget
returns-in_err-budget c = rw c.from_residual-in_err-budget.ensures
    (three_some is_name_text is_number is_number (title c.args.version) (words_of c.args.bytes.now) (words_of c.in_ok-name.rest.now) c.in_ok-name.name.now c.in_ok-name.ensures
    ∙ two_some is_number is_number (title c.args.version c.in_ok-name.name.now) (words_of c.in_ok-name.rest.now) (words_of c.in_ok-pieces.rest.now) c.in_ok-pieces.pieces.bytes.now c.in_ok-pieces.ensures
    ∙ last_failed is_number number_lacks (title c.args.version c.in_ok-name.name.now c.in_ok-pieces.pieces.bytes.now) c.in_ok-pieces.rest.now c.in_err-budget.ensures)

pub returns : goal.returns
returns c =
    three_some is_name_text is_number is_number (title c.args.version) (words_of c.args.bytes.now) (words_of c.in_ok-name.rest.now) c.in_ok-name.name.now c.in_ok-name.ensures
    ∙ two_some is_number is_number (title c.args.version c.in_ok-name.name.now) (words_of c.in_ok-name.rest.now) (words_of c.in_ok-pieces.rest.now) c.in_ok-pieces.pieces.bytes.now c.in_ok-pieces.ensures
    ∙ last_passed is_number number_lacks (title c.args.version c.in_ok-name.name.now c.in_ok-pieces.pieces.bytes.now) c.in_ok-pieces.rest.now c.in_ok-budget.budget.bytes.now c.in_ok-budget.ensures.0 c.in_ok-budget.ensures.1
