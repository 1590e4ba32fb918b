-- A body stands after the parameters.
use Rattle.std.proofs.Common.{true, refl}
use Rattle.std.proofs.lemmas.Result.{err_from_is_err_and}
use Rattle.burr_container.proofs.ProceduresRead.{main_at, main_fails, main_head, count_fails}
use Rattle.burr_container.proofs.reading.parts.main_procedure.Goals as goal

pub returns-in_err-results : goal.returns-in_err-results
returns-in_err-results c =
    let p = err_from_is_err_and c.from_residual-in_err-results.result c.from_residual-in_err-results.ensures.1 in
    rw (p.1, p.2)
    (count_fails c.args.layout.version c.args.layout.pieces true c.in_ok-parameters.parameters c.args.cursor.now c.byte_within.new.cursor _
    (main_head c.in_ok-parameters.parameters c.args.cursor.now c.byte_within.new.cursor c.in_ok-parameters.ensures) c.in_err-results.ensures.reads)

pub returns-in_err-labels : goal.returns-in_err-labels
returns-in_err-labels c =
    let p = err_from_is_err_and c.from_residual-in_err-labels.result c.from_residual-in_err-labels.ensures.1 in
    rw (p.1, p.2)
    (main_fails c.args.layout.version c.args.layout.pieces c.in_ok-parameters.parameters c.in_ok-results.results c.args.cursor.now c.byte_within.new.cursor
    c.result_count.new.cursor c.in_ok-parameters.ensures c.in_ok-results.ensures.reads _ c.in_err-labels.ensures)

pub returns : goal.returns
returns c =
    let body = c.in_ok-labels.ensures in (
      _,
      record { parameters = refl; results = refl; exit = tt; of_plan = body.1.of_plan; labels = body.1.labels; code = body.1.code },
      main_at c.args.layout.version c.args.layout.pieces c.in_ok-parameters.parameters c.in_ok-results.results c.args.cursor.now c.byte_within.new.cursor
          c.result_count.new.cursor c.in_ok-parameters.ensures c.in_ok-results.ensures.reads body.0.0 body.0.1 c.body.new.cursor body.2,
    )
