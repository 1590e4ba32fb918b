-- From this symbol on nothing can grow, and the lowest numbers were put there.
use Rattle.std.proofs.Common.{◌≡◌, ◌≤◌, ◌++◌, None, length, drop, take}
use Rattle.burr_forms.specs.Views.Rising.{following, lows}
use Rattle.burr_forms.proofs.points.advance.Given as goal

abbrev pub invariant-loop-symbol : goal.invariant-loop-symbol
invariant-loop-symbol l = record {
  few : l.symbol ≤ length l.fn.ranges;
  none : following (drop l.symbol l.fn.ranges) (drop l.symbol l.fn.point) ≡ None;
  is : l.point ≡ take l.symbol l.fn.point ++ lows (drop l.symbol l.fn.ranges);
}

abbrev pub decreases-loop-symbol : goal.decreases-loop-symbol
decreases-loop-symbol l = l.symbol
