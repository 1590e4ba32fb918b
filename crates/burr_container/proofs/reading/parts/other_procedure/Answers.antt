-- An exit frame and a body stand after the parameters.
use Rattle.std.proofs.Common.{false, refl}
use Rattle.std.proofs.lemmas.Result.{err_from_is_err_and}
use Rattle.burr_container.specs.Views.Refs.{exit_frame_of}
use Rattle.burr_container.proofs.ExitsRead.{so_many_results}
use Rattle.burr_container.proofs.ProceduresRead.{count_fails, other_head, other_at, exit_frame_fails, other_body_fails}
use Rattle.burr_container.proofs.reading.parts.other_procedure.Goals as goal

pub returns-in_err-results : goal.returns-in_err-results
returns-in_err-results c =
    let p = err_from_is_err_and c.from_residual-in_err-results.result c.from_residual-in_err-results.ensures.1 in
    rw (p.1, p.2)
    (count_fails c.args.layout.version c.args.layout.pieces false c.in_ok-parameters.parameters c.args.cursor.now c.byte_within.new.cursor _
    (other_head c.in_ok-parameters.parameters c.args.cursor.now c.byte_within.new.cursor c.in_ok-parameters.ensures) c.in_err-results.ensures.reads)

pub returns-in_err-exit : goal.returns-in_err-exit
returns-in_err-exit c =
    let p = err_from_is_err_and c.from_residual-in_err-exit.result c.from_residual-in_err-exit.ensures.1 in
    rw (p.1, p.2)
    (exit_frame_fails c.args.layout.version c.args.layout.pieces c.in_ok-parameters.parameters c.in_ok-results.results c.args.cursor.now c.byte_within.new.cursor
    c.result_count.new.cursor c.in_ok-parameters.ensures c.in_ok-results.ensures.reads _ c.in_err-exit.ensures.reads)

pub returns-in_err-labels : goal.returns-in_err-labels
returns-in_err-labels c =
    let p = err_from_is_err_and c.from_residual-in_err-labels.result c.from_residual-in_err-labels.ensures.1 in
    rw (p.1, p.2)
    (other_body_fails c.args.layout.version c.args.layout.pieces c.in_ok-parameters.parameters c.in_ok-results.results c.args.cursor.now c.byte_within.new.cursor
    c.result_count.new.cursor c.in_ok-parameters.ensures c.in_ok-results.ensures.reads
    (exit_frame_of c.in_ok-exit.exit) c.exit_frame.new.cursor c.in_ok-exit.ensures.reads _ c.in_err-labels.ensures)

pub returns : goal.returns
returns c =
    let body = c.in_ok-labels.ensures in
    let exit = c.in_ok-exit.ensures in (
      _,
      record {
        parameters = refl;
        results = refl;
        exit = record { frame = refl; many = so_many_results c.args.layout.version c.args.layout.pieces c.in_ok-parameters.parameters c.in_ok-results.results (exit_frame_of c.in_ok-exit.exit) exit.reads.fits; over = exit.parameters; live = exit.places.1; count = exit.places.0 };
        of_plan = body.1.of_plan;
        labels = body.1.labels;
        code = body.1.code;
      },
      other_at c.args.layout.version c.args.layout.pieces c.in_ok-parameters.parameters c.in_ok-results.results c.args.cursor.now c.byte_within.new.cursor
          c.result_count.new.cursor c.in_ok-parameters.ensures c.in_ok-results.ensures.reads (exit_frame_of c.in_ok-exit.exit) c.exit_frame.new.cursor exit.reads body.0.0 body.0.1 c.body.new.cursor body.2,
    )
