use Rattle.std.proofs.Common.{◌+◌, arith}
use Rattle.std.proofs.lemmas.List.{take_rest}
use Rattle.burr_blocking.specs.Views.Bits.{or_both}
use Rattle.burr_blocking.proofs.Joins.{none_joined, put_next, rest_next, skip_next}
use Rattle.burr_blocking.proofs.Shifts.{both_nothing}
use Rattle.burr_blocking.proofs.row_tables.join.Goals as goal

pub loop-i-init : goal.loop-i-init
loop-i-init c =
    let next = c.requires.next 0 (omega arith) in
    (skip_next (or_both c.args.columns c.args.further) (both_nothing c.args.columns c.args.further) c.args.first 0 _ c.args.rows.now c.args.others.now c.args.rows.now (none_joined (or_both c.args.columns c.args.further) c.args.first c.args.rows.now) next, next.to)

pub loop-i-preserved : goal.loop-i-preserved
loop-i-preserved c = (
  put_next (or_both c.args.columns c.args.further) c.args.first 8 c.loop-i.i c.args.rows.now c.args.others.now c.loop-i.rows c.join_eight-joined.result (omega (arith, c.loop-i.invariant.1)) c.loop-i.invariant.0 c.join_eight-joined.ensures,
  omega (arith, c.loop-i-test.true),
)

pub loop-i-preserved-in-loop-i : goal.loop-i-preserved-in-loop-i
loop-i-preserved-in-loop-i c =
    let next = c.requires.next (c.loop-i.i + 8) (omega (arith, c.loop-i-test.true)) in (
      skip_next (or_both c.args.columns c.args.further) (both_nothing c.args.columns c.args.further) c.args.first (c.loop-i.i + 8) _ c.args.rows.now c.args.others.now _ (put_next (or_both c.args.columns c.args.further) c.args.first 8 c.loop-i.i c.args.rows.now c.args.others.now c.loop-i.rows c.join_eight-joined.result (omega (arith, c.loop-i.invariant.1)) c.loop-i.invariant.0 c.join_eight-joined.ensures) next,
      next.to,
    )

pub returns : goal.returns
returns c =
    rest_next (or_both c.args.columns c.args.further) c.args.first c.loop-i.i c.args.rows.now c.args.others.now _ c.loop-i.rows c.join_each.new.rows (omega (arith, c.loop-i.invariant.1)) c.loop-i.invariant.0 (take_rest c.args.others.now c.loop-i.i) c.join_each.ensures
