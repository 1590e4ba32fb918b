use Rattle.std.proofs.Common.{Ok, Err, refl, ◌∙◌}
use Rattle.std.proofs.lemmas.Result.{err_from_is_err_and}
use Rattle.burr_asm.specs.declared.text.front.Front.TheVariants.{AwaitsMain}
use Rattle.burr_asm.specs.declared.fault.AsmFault.TheVariants as fault
use Rattle.burr_asm.specs.declared.text.stage.Stage.TheVariants.{AwaitsLabel}
use Rattle.burr_asm.specs.Views.Fronts.{in_procedure}
use Rattle.burr_asm.specs.Views.LineWords.{procedure_words}
use Rattle.burr_asm.proofs.FrontSteps.{version_told, main_of_other, main_refused, main_begun, main_due, main_other}
use Rattle.burr_asm.proofs.text.front.begin_main.Goals as goal

pub returns-then-not-are_of : goal.returns-then-not-are_of
returns-then-not-are_of c =
    main_due c.args.outline.now c.args.form c.in-Procedure.words c.args.line (Err (fault.P1 c.args.line)) c.in-Procedure.is
    (main_of_other c.args.outline.now (procedure_words c.in-Procedure.words) c.args.line c.are_of.result
    (version_told _ _ _ (procedure_words c.in-Procedure.words).results c.are_of.ensures c.version.ensures) c.if-not-are_of.true)

pub returns-in_err-routine-in-Procedure : goal.returns-in_err-routine-in-Procedure
returns-in_err-routine-in-Procedure c =
    let p = err_from_is_err_and c.from_residual.result c.from_residual.ensures.1 in
    rw (p.1, p.2)
    (main_due c.args.outline.now c.args.form c.in-Procedure.words c.args.line (Err c.in_err-routine-in-Procedure.field-0.0) c.in-Procedure.is
    (main_refused c.args.outline.now (procedure_words c.in-Procedure.words) c.args.line c.are_of.result c.in_err-routine-in-Procedure.field-0.0
    (version_told _ _ _ (procedure_words c.in-Procedure.words).results c.are_of.ensures c.version.ensures) c.if-not-are_of.false c.in_err-routine-in-Procedure.ensures))

pub returns-in_ok-routine-in-Procedure : goal.returns-in_ok-routine-in-Procedure
returns-in_ok-routine-in-Procedure c =
    let (passed, is_begun, sign, named) = c.in_ok-routine-in-Procedure.ensures in
    main_due c.args.outline.now c.args.form c.in-Procedure.words c.args.line
    (Ok (in_procedure c.take.result c.in_ok-routine-in-Procedure.routine AwaitsLabel)) c.in-Procedure.is
    (main_begun c.args.outline.now c.take.result (procedure_words c.in-Procedure.words) c.in_ok-routine-in-Procedure.routine c.args.line c.are_of.result
    (version_told _ _ _ (procedure_words c.in-Procedure.words).results c.are_of.ensures c.version.ensures) c.if-not-are_of.false
    (passed, is_begun, sign, c.take.ensures ∙ named))

pub returns-in_default : goal.returns-in_default
returns-in_default c = main_other (AwaitsMain c.args.outline.now) c.args.outline.now c.args.form c.args.line refl c.in_default.not-Procedure
