-- The next range is written.
use Rattle.std.proofs.Common.{arith, []}
use Rattle.std.specs.Prelude.{Some}
use Rattle.burr_container.specs.Rules.Plans.{Range}
use Rattle.burr_container.specs.Rules.Spelling.{range_bytes}
use Rattle.burr_container.proofs.Written.{next_of, one_more}
use Rattle.burr_container.proofs.writing.add_ranges.Goals as goal

pub loop-range-preserved : goal.loop-range-preserved
loop-range-preserved c =
    rw c.in_ok-add_range.ensures
    (one_more [] c.loop-range.bytes.items _ _ _ _ c.loop-range.invariant
    (next_of (λ (r : Range). range_bytes (Some r)) c.loop-range.range-index c.args.ranges.now _ (omega arith)))
