use Rattle.std.proofs.Common.{◌≡◌, take}
use Rattle.burr_forms.specs.Views.Rising.{lows}
use Rattle.burr_forms.proofs.points.lowest_point.Given as goal

abbrev pub invariant-loop-range : goal.invariant-loop-range
invariant-loop-range l = l.point.items ≡ lows (take l.range-index l.ranges)
