-- A frame stands after the position.
use Rattle.std.proofs.lemmas.Result.{err_from_is_err_and}
use Rattle.std.specs.Prelude.{true}
use Rattle.burr_container.specs.Views.Refs.{frame_of}
use Rattle.burr_container.proofs.PartsRead.{label_at, label_fails}
use Rattle.burr_container.proofs.label_table.label.Goals as goal

pub returns-in_err-frame-clause-reads : goal.returns-in_err-frame-clause-reads
returns-in_err-frame-clause-reads c =
    let p = err_from_is_err_and c.from_residual-in_err-frame.result c.from_residual-in_err-frame.ensures.1 in
    rw (p.1, p.2)
    (label_fails (λ p. true) c.args.layout.pieces c.in_ok-position.position c.args.cursor.now c.any_position.new.cursor _ c.in_ok-position.ensures c.in_err-frame.ensures.reads)

pub returns-clause-reads : goal.returns-clause-reads
returns-clause-reads c =
    label_at (λ p. true) c.args.layout.pieces c.in_ok-position.position (frame_of c.in_ok-frame.frame) c.args.cursor.now c.any_position.new.cursor
    c.frame.new.cursor c.in_ok-position.ensures c.in_ok-frame.ensures.reads
