-- A frame stands after the position.
use Rattle.std.proofs.Common.{refl}
use Rattle.std.proofs.lemmas.Result.{err_from_is_err_and}
use Rattle.burr_container.specs.Rules.Faults.{is_next_label}
use Rattle.burr_container.specs.Views.Refs.{frame_of}
use Rattle.burr_container.proofs.PartsRead.{label_at, label_fails}
use Rattle.burr_container.proofs.reading.parts.label.Goals as goal

pub returns-in_err-_frame : goal.returns-in_err-_frame
returns-in_err-_frame c =
    let p = err_from_is_err_and c.from_residual-in_err-_frame.result c.from_residual-in_err-_frame.ensures.1 in
    rw (p.1, p.2)
    (label_fails (is_next_label c.args.last) c.args.layout.pieces c.in_ok-position.position c.args.cursor.now c.position.new.cursor _ c.in_ok-position.ensures
    c.in_err-_frame.ensures.reads)

pub returns : goal.returns
returns c = (
  (c.in_ok-position.position, frame_of c.in_ok-_frame._frame),
  refl,
  label_at (is_next_label c.args.last) c.args.layout.pieces c.in_ok-position.position (frame_of c.in_ok-_frame._frame) c.args.cursor.now
      c.position.new.cursor c.frame.new.cursor c.in_ok-position.ensures c.in_ok-_frame.ensures.reads,
)
