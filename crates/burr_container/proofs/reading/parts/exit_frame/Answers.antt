-- The parts of an exit frame stand one after the other.
use Rattle.std.proofs.Common.{inl}
use Rattle.std.proofs.lemmas.Result.{err_from_is_err_and}
use Rattle.burr_container.specs.Rules.Plans.{exit_symbols}
use Rattle.burr_container.specs.Rules.Faults.{ExitRestFails}
use Rattle.burr_container.proofs.FramesRead.{set_fails}
use Rattle.burr_container.proofs.ExitsRead.{ranges_fail_in_exit, guards_fail_in_exit, places_fail_in_exit, exit_frame_at}
use Rattle.burr_container.proofs.reading.parts.exit_frame.Goals as goal

pub returns-in_err-tray-clause-reads : goal.returns-in_err-tray-clause-reads
returns-in_err-tray-clause-reads c =
    let p = err_from_is_err_and c.from_residual.result c.from_residual.ensures.1 in
    rw (p.1, p.2) (inl c.in_err-tray.ensures)

pub returns-in_err-grip-clause-reads : goal.returns-in_err-grip-clause-reads
returns-in_err-grip-clause-reads c =
    let p = err_from_is_err_and c.from_residual-in_err-grip.result c.from_residual-in_err-grip.ensures.1 in
    rw (p.1, p.2)
    (set_fails c.args.layout.pieces _ _ _ c.in_ok-tray.ensures
    (ExitRestFails c.args.layout.version c.args.layout.pieces c.args.results (exit_symbols c.args.parameters c.args.results)) _ c.in_err-grip.ensures)

pub returns-in_err-results-clause-reads : goal.returns-in_err-results-clause-reads
returns-in_err-results-clause-reads c =
    let p = err_from_is_err_and c.from_residual-in_err-results.result c.from_residual-in_err-results.ensures.1 in
    rw (p.1, p.2)
    (ranges_fail_in_exit c.args.layout.version c.args.layout.pieces c.args.parameters c.args.results _ _ _ _ _ c.in_ok-tray.ensures c.in_ok-grip.ensures _
    c.in_err-results.ensures.reads)

pub returns-in_err-guards-clause-reads : goal.returns-in_err-guards-clause-reads
returns-in_err-guards-clause-reads c =
    let p = err_from_is_err_and c.from_residual-in_err-guards.result c.from_residual-in_err-guards.ensures.1 in
    rw (p.1, p.2)
    (guards_fail_in_exit c.args.layout.version c.args.layout.pieces c.args.parameters c.args.results _ _ _ _ _ c.in_ok-tray.ensures c.in_ok-grip.ensures _
    c.exit_symbols-live.ensures _ _ c.in_ok-results.ensures.reads _ c.in_err-guards.ensures.reads)

pub returns-in_err-places-clause-reads : goal.returns-in_err-places-clause-reads
returns-in_err-places-clause-reads c =
    let p = err_from_is_err_and c.from_residual-in_err-places.result c.from_residual-in_err-places.ensures.1 in
    rw (p.1, p.2)
    (places_fail_in_exit c.args.layout.version c.args.layout.pieces c.args.parameters c.args.results _ _ _ _ _ c.in_ok-tray.ensures c.in_ok-grip.ensures _
    c.exit_symbols-live.ensures _ _ c.in_ok-results.ensures.reads _ _ c.in_ok-guards.ensures.reads _ c.in_err-places.ensures.reads)

pub returns-clause-reads : goal.returns-clause-reads
returns-clause-reads c =
    exit_frame_at c.args.layout.version c.args.layout.pieces c.args.parameters c.args.results _ _ _ _ _ c.in_ok-tray.ensures c.in_ok-grip.ensures _
    c.exit_symbols-live.ensures _ _ c.in_ok-results.ensures.reads _ _ c.in_ok-guards.ensures.reads _ _ c.in_ok-places.ensures.reads
