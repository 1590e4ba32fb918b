-- The first line of an exit frame is judged as by the rules.
use Rattle.std.proofs.Common.{subst, sym, Ok, Err}
use Rattle.std.proofs.lemmas.Result.{err_from_is_err_and}
use Rattle.burr_asm.specs.declared.text.signature.Signature.{Signature}
use Rattle.burr_asm.specs.Views.Exits.{IsSignature}
use Rattle.burr_asm.specs.Views.LineWords.{grip_words}
use Rattle.burr_asm.proofs.StageExits.{exit_given, other_exits}
use Rattle.burr_asm.proofs.text.stage.begins_exit.Goals as goal

pub returns-in_ok-grip-in-Exit : goal.returns-in_ok-grip-in-Exit
returns-in_ok-grip-in-Exit c =
    rw c.in-Exit.is
    (exit_given c.args.routine.now c.args.pieces (grip_words c.in-Exit.words) c.args.line (Ok c.new.result)
    (c.in_ok-grip-in-Exit.ensures.0, λ version h is. c.new.ensures version h (grip_words c.in-Exit.words) (subst (λ (s : Signature). IsSignature s version h) (sym c.signature.ensures) is) c.in_ok-grip-in-Exit.ensures.1))

pub returns-in_default : goal.returns-in_default
returns-in_default c = other_exits c.args.form c.args.routine.now c.args.routine.now c.args.pieces c.args.line c.in_default.not-Exit

pub returns-in_err-grip-in-Exit : goal.returns-in_err-grip-in-Exit
returns-in_err-grip-in-Exit c =
    let e = err_from_is_err_and c.from_residual.result c.from_residual.ensures.1 in
    rw (c.in-Exit.is, e.1, e.2)
    (exit_given c.args.routine.now c.args.pieces (grip_words c.in-Exit.words) c.args.line (Err c.in_err-grip-in-Exit.field-0.0) c.in_err-grip-in-Exit.ensures)
