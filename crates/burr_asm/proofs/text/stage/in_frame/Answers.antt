-- A line of a frame before its cost, or the cost, is judged as by the rules.
use Rattle.std.proofs.Common.{Ok, Err}
use Rattle.std.proofs.lemmas.Result.{err_from_is_err_and}
use Rattle.burr_asm.proofs.StageFrames.{cost_given, condition_given}
use Rattle.burr_asm.proofs.text.stage.in_frame.Goals as goal

pub returns-in-Cost : goal.returns-in-Cost
returns-in-Cost c =
    rw c.in-Cost.is
    (cost_given c.args.conditions.now c.in-Cost.form.bytes.now c.args.line (Ok c.in_ok-frame.frame) c.in_ok-frame.ensures)

pub returns : goal.returns
returns c = condition_given c.args.conditions.now c.add.new.self c.args.form c.args.line (Ok (tt {0})) c.in_default.not-Cost c.in_ok-add.ensures

pub returns-in_err-frame : goal.returns-in_err-frame
returns-in_err-frame c =
    let e = err_from_is_err_and c.from_residual.result c.from_residual.ensures.1 in
    rw (c.in-Cost.is, e.1, e.2)
    (cost_given c.args.conditions.now c.in-Cost.form.bytes.now c.args.line (Err c.in_err-frame.field-0.0) c.in_err-frame.ensures)

pub returns-in_err-add : goal.returns-in_err-add
returns-in_err-add c =
    let e = err_from_is_err_and c.from_residual-in_err-add.result c.from_residual-in_err-add.ensures.1 in
    rw (e.1, e.2)
    (condition_given {A = Unit {0}} c.args.conditions.now c.add.new.self c.args.form c.args.line (Err c.in_err-add.field-0.0) c.in_default.not-Cost c.in_err-add.ensures)
