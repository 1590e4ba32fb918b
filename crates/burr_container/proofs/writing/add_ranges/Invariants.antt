-- What is written, and what is still to be written, are all of it.
use Rattle.std.proofs.Common.{◌≡◌, ◌++◌, drop}
use Rattle.burr_container.specs.Rules.Spelling.{ranges_bytes}
use Rattle.burr_container.proofs.writing.add_ranges.Given as goal

abbrev pub invariant-loop-range : goal.invariant-loop-range
invariant-loop-range l =
    l.bytes.items ++ ranges_bytes (drop l.range-index l.ranges)
    ≡ l.initial.bytes.items ++ ranges_bytes l.ranges
