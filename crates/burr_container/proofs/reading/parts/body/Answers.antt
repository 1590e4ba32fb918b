-- Code stands after the labels.
use Rattle.std.proofs.Common.{inl, refl}
use Rattle.std.proofs.lemmas.Result.{err_from_is_err_and}
use Rattle.burr_container.proofs.ProceduresRead.{body_at, code_fails}
use Rattle.burr_container.proofs.reading.parts.body.Goals as goal

pub returns-in_err-labels : goal.returns-in_err-labels
returns-in_err-labels c =
    let p = err_from_is_err_and c.from_residual.result c.from_residual.ensures.1 in
    rw (p.1, p.2) (inl c.in_err-labels.ensures)

pub returns-in_err-code : goal.returns-in_err-code
returns-in_err-code c =
    let labels = c.in_ok-labels.ensures in
    let p = err_from_is_err_and c.from_residual-in_err-code.result c.from_residual-in_err-code.ensures.1 in
    rw (p.1, p.2)
    (code_fails c.args.layout.pieces c.args.cursor.now c.labels.new.cursor labels.0 c.in_ok-labels.last labels.1.last labels.2 _ c.in_err-code.ensures)

pub returns : goal.returns
returns c =
    let labels = c.in_ok-labels.ensures in (
      (labels.0, c.in_ok-code.code.now),
      record { of_plan = labels.1.of_plan; labels = labels.1.labels; code = refl },
      body_at c.args.layout.pieces c.args.cursor.now c.labels.new.cursor labels.0 c.in_ok-labels.last labels.1.last labels.2 c.code.new.cursor
          c.in_ok-code.code.now c.in_ok-code.ensures,
    )
