-- A range is read each turn.
use Rattle.std.proofs.Common.{arith}
use Rattle.std.proofs.lemmas.Result.{err_from_is_err_and}
use Rattle.burr_container.proofs.RangesWalk.{ranges_go_on, range_fails, ranges_end}
use Rattle.burr_container.proofs.reading.parts.ranges.Goals as goal

pub returns-in_err-range-clause-reads : goal.returns-in_err-range-clause-reads
returns-in_err-range-clause-reads c =
    let p = err_from_is_err_and c.from_residual.result c.from_residual.ensures.1 in
    rw (p.1, p.2)
    (range_fails c.args.count c.args.cursor.now c.loop-n.n c.loop-n.ranges c.loop-n.cursor c.loop-n.invariant _ (omega arith) c.in_err-range.ensures)

pub loop-n-preserved : goal.loop-n-preserved
loop-n-preserved c =
    ranges_go_on c.args.count c.args.cursor.now c.loop-n.n c.loop-n.ranges c.loop-n.cursor c.loop-n.invariant c.range.new.cursor _ (omega arith) (omega arith)
    c.in_ok-range.ensures

pub returns-clause-reads : goal.returns-clause-reads
returns-clause-reads c =
    ranges_end c.args.count c.args.cursor.now c.loop-n.n c.loop-n.ranges c.loop-n.cursor c.loop-n.invariant (omega arith)
