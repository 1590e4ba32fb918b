-- From the lowest point on, all points are left.
use Rattle.std.proofs.Common.{ap, subst, ◌∙◌}
use Rattle.std.specs.Prelude.{filter}
use Rattle.burr_forms.specs.Rules.Points.{guards_hold, InBox}
use Rattle.burr_forms.specs.Views.Rising.{points_from, lows}
use Rattle.burr_forms.proofs.Orders.{lows_inside}
use Rattle.burr_forms.proofs.Remaining.{from_lows}
use Rattle.burr_forms.proofs.points.Points.new.Goals as goal

pub invariant_of-result : goal.invariant_of-result
invariant_of-result c = λ _.
    rw (c.lowest.ensures) (subst (λ r. InBox r (lows c.ranges-2.result.now)) c.ranges-2.ensures.ranges (lows_inside c.ranges-2.result.now c.ranges-2.ensures.are))

pub returns : goal.returns
returns c =
    ap (λ r. filter (guards_hold c.args.guards.now) (points_from c.args.ranges.now r)) (c.lowest.ensures ∙ ap lows c.ranges-2.ensures.ranges)
    ∙ ap (λ r. filter (guards_hold c.args.guards.now) r) (from_lows c.args.ranges.now)
