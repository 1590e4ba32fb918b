use Rattle.std.proofs.Common.{◌∙◌}
use Rattle.std.proofs.lemmas.Result.{err_from_is_err_and}
use Rattle.burr_asm.specs.Views.LineWords.{procedure_words}
use Rattle.burr_asm.proofs.FrontSteps.{version_told, next_of_other, next_at_label, next_refused, next_begun}
use Rattle.burr_asm.proofs.text.front.UnderWay.next_procedure.Goals as goal

pub returns-then-not-are_of : goal.returns-then-not-are_of
returns-then-not-are_of c =
    next_of_other c.args.self.now.outline c.args.self.now.routine (procedure_words c.args.words) c.args.line c.are_of.result
    (version_told _ _ _ (procedure_words c.args.words).results c.are_of.ensures c.version.ensures) c.if-not-are_of.true

pub returns-in_err-end : goal.returns-in_err-end
returns-in_err-end c =
    let p = err_from_is_err_and c.from_residual.result c.from_residual.ensures.1 in
    rw (p.1, p.2)
    (next_at_label c.args.self.now.outline c.args.self.now.routine (procedure_words c.args.words) c.args.line c.are_of.result c.in_err-end.field-0.0
    (version_told _ _ _ (procedure_words c.args.words).results c.are_of.ensures c.version.ensures) c.if-not-are_of.false c.in_err-end.ensures)

pub returns-in_err-routine : goal.returns-in_err-routine
returns-in_err-routine c =
    let p = err_from_is_err_and c.from_residual-in_err-routine.result c.from_residual-in_err-routine.ensures.1 in
    let (ends, same) = c.in_ok-end.ensures in
    rw (p.1, p.2)
    (next_refused c.args.self.now.outline c.end.new.self c.args.self.now.routine (procedure_words c.args.words) c.args.line c.are_of.result c.in_err-routine.field-0.0
    (version_told _ _ _ (procedure_words c.args.words).results c.are_of.ensures c.version.ensures) c.if-not-are_of.false ends same c.in_err-routine.ensures)

pub returns : goal.returns
returns c =
    let (ends, same) = c.in_ok-end.ensures in
    let (passed, is_begun, sign, named) = c.in_ok-routine.ensures in
    next_begun c.args.self.now.outline c.end.new.self c.take.result c.args.self.now.routine c.in_ok-routine.routine (procedure_words c.args.words) c.args.line c.are_of.result
    (version_told _ _ _ (procedure_words c.args.words).results c.are_of.ensures c.version.ensures) c.if-not-are_of.false ends same
    (passed, is_begun, sign, c.take.ensures ∙ named)
