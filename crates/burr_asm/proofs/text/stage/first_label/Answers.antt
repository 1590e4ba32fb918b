-- The first label of a procedure is judged as by the rules.
use Rattle.std.proofs.Common.{Ok, Err}
use Rattle.std.proofs.lemmas.Result.{err_from_is_err_and}
use Rattle.burr_asm.proofs.StageCode.{first_given, other_first}
use Rattle.burr_asm.proofs.text.stage.first_label.Goals as goal

pub returns-in_ok-add_label-in-Label : goal.returns-in_ok-add_label-in-Label
returns-in_ok-add_label-in-Label c =
    rw c.in-Label.is
    (first_given c.args.routine.now c.add_label.new.self c.in-Label.name.now c.args.line (Ok (tt {0})) c.in_ok-add_label-in-Label.ensures)

pub returns-in_default : goal.returns-in_default
returns-in_default c = other_first c.args.form c.args.routine.now c.args.routine.now c.args.line c.in_default.not-Label

pub returns-in_err-add_label-in-Label : goal.returns-in_err-add_label-in-Label
returns-in_err-add_label-in-Label c =
    let e = err_from_is_err_and c.from_residual.result c.from_residual.ensures.1 in
    rw (c.in-Label.is, e.1, e.2)
    (first_given {A = Unit {0}} c.args.routine.now c.add_label.new.self c.in-Label.name.now c.args.line (Err c.in_err-add_label-in-Label.field-0.0) c.in_err-add_label-in-Label.ensures)
