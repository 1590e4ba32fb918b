-- A point further, which is given where the guards hold.
use Rattle.std.proofs.Common.{rules, ◌∙◌, ap, sym, length, arith}
use Rattle.burr_forms.specs.Views.Rising.{left}
use Rattle.burr_forms.proofs.Boxes.{near_inside}
use Rattle.burr_forms.proofs.Going.{stepped, given, passed, inside_next, fewer}
use Rattle.burr_forms.proofs.points.PointsIterator.next.Goals as goal

pub hold-requires : goal.hold-requires
hold-requires c =
    let step = stepped _ c.loop-self.self-inside.ranges.now c.loop-self.self-inside.point c.advance.new.point _ c.is_none-self-inside.result c.ranges-in-loop-self.ensures.ranges c.ranges-in-loop-self.ensures.are (c.loop-self.invariant.inside (search rules)) c.is_none-self-inside.ensures c.advance.ensures in
    near_inside c.loop-self.self-inside.ranges.now c.loop-self.self-inside.point step.are step.inside

pub invariant_of-self-then-hold : goal.invariant_of-self-then-hold
invariant_of-self-then-hold c =
    let step = stepped _ c.loop-self.self-inside.ranges.now c.loop-self.self-inside.point c.advance.new.point _ c.is_none-self-inside.result c.ranges-in-loop-self.ensures.ranges c.ranges-in-loop-self.ensures.are (c.loop-self.invariant.inside (search rules)) c.is_none-self-inside.ensures c.advance.ensures in
    inside_next c.loop-self.self-inside.ranges.now c.loop-self.self-inside.point c.advance.new.point c.is_none-self-inside.result step

pub returns-then-hold-clause-steps : goal.returns-then-hold-clause-steps
returns-then-hold-clause-steps c =
    let step = stepped _ c.loop-self.self-inside.ranges.now c.loop-self.self-inside.point c.advance.new.point _ c.is_none-self-inside.result c.ranges-in-loop-self.ensures.ranges c.ranges-in-loop-self.ensures.are (c.loop-self.invariant.inside (search rules)) c.is_none-self-inside.ensures c.advance.ensures in
    sym c.loop-self.invariant.is
    ∙ ap (λ e. left c.loop-self.self-inside.ranges.now c.loop-self.self-inside.guards.now c.loop-self.self-inside.point e) c.loop-self-test.true
    ∙ given c.loop-self.self-inside.ranges.now c.loop-self.self-inside.guards.now c.loop-self.self-inside.point c.advance.new.point c.is_none-self-inside.result step (sym c.hold.ensures ∙ c.if-hold.true)

pub returns-then-hold-clause-goes : goal.returns-then-hold-clause-goes
returns-then-hold-clause-goes c =
    let one = ap (λ r. length r) (returns-then-hold-clause-steps c) in
    record { on = λ f. (tt, tt, omega (arith, one)); keeps = tt; rests = λ f. tt }

pub loop-self-smaller : goal.loop-self-smaller
loop-self-smaller c =
    let step = stepped _ c.loop-self.self-inside.ranges.now c.loop-self.self-inside.point c.advance.new.point _ c.is_none-self-inside.result c.ranges-in-loop-self.ensures.ranges c.ranges-in-loop-self.ensures.are (c.loop-self.invariant.inside (search rules)) c.is_none-self-inside.ensures c.advance.ensures in
    rw c.loop-self-test.true (fewer c.loop-self.self-inside.ranges.now c.loop-self.self-inside.point c.advance.new.point c.is_none-self-inside.result step)

pub loop-self-preserved : goal.loop-self-preserved
loop-self-preserved c =
    let step = stepped _ c.loop-self.self-inside.ranges.now c.loop-self.self-inside.point c.advance.new.point _ c.is_none-self-inside.result c.ranges-in-loop-self.ensures.ranges c.ranges-in-loop-self.ensures.are (c.loop-self.invariant.inside (search rules)) c.is_none-self-inside.ensures c.advance.ensures in
    record {
      inside = inside_next c.loop-self.self-inside.ranges.now c.loop-self.self-inside.point c.advance.new.point c.is_none-self-inside.result step;
      is = sym (ap (λ e. left c.loop-self.self-inside.ranges.now c.loop-self.self-inside.guards.now c.loop-self.self-inside.point e) c.loop-self-test.true ∙ passed c.loop-self.self-inside.ranges.now c.loop-self.self-inside.guards.now c.loop-self.self-inside.point c.advance.new.point c.is_none-self-inside.result step (sym c.hold.ensures ∙ c.if-hold.false)) ∙ c.loop-self.invariant.is;
    }
