-- What was passed over was not left.
use Rattle.std.proofs.Common.{◌≡◌, suc, cond, false}
use Rattle.burr_forms.specs.Rules.Points.{InBox}
use Rattle.burr_forms.specs.Views.Rising.{left, count_after}
use Rattle.burr_forms.proofs.points.PointsIterator.next.Given as goal

abbrev pub invariant-loop-self : goal.invariant-loop-self
invariant-loop-self l = record {
  inside : l.self-inside.ended ≡ false → InBox l.self-inside.ranges.now l.self-inside.point;
  is : left l.self-inside.ranges.now l.self-inside.guards.now l.self-inside.point l.self-inside.ended ≡ l.fn.self;
}

abbrev pub decreases-loop-self : goal.decreases-loop-self
decreases-loop-self l = cond l.self-inside.ended 0 (suc (count_after l.self-inside.ranges.now l.self-inside.point))
