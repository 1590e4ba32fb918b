-- The first line of a frame is judged as by the rules.
use Rattle.std.proofs.Common.{Ok, Err}
use Rattle.std.proofs.lemmas.Result.{err_from_is_err_and}
use Rattle.burr_asm.specs.Views.LineWords.{grip_words}
use Rattle.burr_asm.proofs.StageFrames.{frame_given, other_begins}
use Rattle.burr_asm.proofs.text.stage.begins_frame.Goals as goal

pub returns-in_ok-grip-in-Frame : goal.returns-in_ok-grip-in-Frame
returns-in_ok-grip-in-Frame c =
    rw c.in-Frame.is
    (frame_given c.args.pieces (grip_words c.in-Frame.words) c.args.line (Ok c.new.result)
    (c.in_ok-grip-in-Frame.ensures.0, c.new.ensures (grip_words c.in-Frame.words) c.in_ok-grip-in-Frame.ensures.1))

pub returns-in_default : goal.returns-in_default
returns-in_default c = other_begins c.args.form c.args.pieces c.args.line c.in_default.not-Frame

pub returns-in_err-grip-in-Frame : goal.returns-in_err-grip-in-Frame
returns-in_err-grip-in-Frame c =
    let e = err_from_is_err_and c.from_residual.result c.from_residual.ensures.1 in
    rw (c.in-Frame.is, e.1, e.2)
    (frame_given c.args.pieces (grip_words c.in-Frame.words) c.args.line (Err c.in_err-grip-in-Frame.field-0.0) c.in_err-grip-in-Frame.ensures)
