use Rattle.std.proofs.Common.{rules, ◌≤◌, length, take}
use Rattle.burr_runs.proofs.WholeInput.{keeping_fails}
use Rattle.burr_runs.proofs.input.read_whole.Goals as goal

pub returns-in_err-extend_from_slice-clause-err : goal.returns-in_err-extend_from_slice-clause-err
returns-in_err-extend_from_slice-clause-err g c =
    let left = g.R.Source.left in
    let new = c.pull.new.self in
    let more = take c.in_ok-count.count c.pull.new.buffer in
    let short : length c.loop-buffer.bytes.items ≤ 16777216 = search rules in
    let short_more : length more ≤ 8192 = search rules in
    keeping_fails (left c.args.source.now) (left c.loop-buffer.source) (left new) (g.R.Source.has_failed new) c.loop-buffer.bytes.items more
    c.from_residual-in_err-extend_from_slice.result c.from_residual-in_err-extend_from_slice.ensures.1 c.loop-buffer.invariant.gave short
    c.in_ok-count.ensures.bytes.0 short_more c.in_ok-count.ensures.fails
