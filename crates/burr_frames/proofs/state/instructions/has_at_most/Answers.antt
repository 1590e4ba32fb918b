-- Each range is counted, up to the first one with which there are too many points.
use Rattle.std.proofs.Common.{arith, drop, ◌+◌}
use Rattle.std.specs.Prelude.{pos}
use Rattle.burr_text.proofs.Common.Tests.{yes_iff, no_iff}
use Rattle.burr_frames.proofs.Rooms.{gap_fits, gap_casts, size_fits, product_fits, counted_on, all_counted, too_many}
use Rattle.burr_frames.proofs.state.instructions.has_at_most.Goals as goal

pub overflow_mul-count : goal.overflow_mul-count
overflow_mul-count c =
    product_fits c.loop-symbol.count _ (c.requires.ranges c.loop-symbol.symbol (pos 0, pos 0) c.loop-symbol-test.true) (omega (arith, c.loop-symbol.invariant.room, c.requires.few))

pub returns-then-most-count : goal.returns-then-most-count
returns-then-most-count c =
    let i = c.loop-symbol.symbol in
    no_iff (too_many c.args.most c.args.ranges.now (drop (i + 1) c.args.ranges.now) _ c.if-most-count.true
    (counted_on c.args.ranges.now i c.loop-symbol.count (pos 0, pos 0) c.requires.ranges c.loop-symbol-test.true c.loop-symbol.invariant.product))

pub loop-symbol-preserved : goal.loop-symbol-preserved
loop-symbol-preserved c =
    record {
      product = counted_on c.args.ranges.now c.loop-symbol.symbol c.loop-symbol.count (pos 0, pos 0) c.requires.ranges c.loop-symbol-test.true c.loop-symbol.invariant.product;
      room = omega (arith, c.if-most-count.false);
    }

pub overflow_sub-count : goal.overflow_sub-count
overflow_sub-count c = gap_fits _ (c.requires.ranges c.loop-symbol.symbol (pos 0, pos 0) c.loop-symbol-test.true)

pub overflow_cast-count : goal.overflow_cast-count
overflow_cast-count c = gap_casts _ (c.requires.ranges c.loop-symbol.symbol (pos 0, pos 0) c.loop-symbol-test.true)

pub overflow_add-count : goal.overflow_add-count
overflow_add-count c = size_fits _ (c.requires.ranges c.loop-symbol.symbol (pos 0, pos 0) c.loop-symbol-test.true)

pub returns : goal.returns
returns c =
    yes_iff (all_counted c.args.most c.args.ranges.now c.loop-symbol.symbol c.loop-symbol.count c.loop-symbol-test.false
    c.loop-symbol.invariant.product c.loop-symbol.invariant.room)
