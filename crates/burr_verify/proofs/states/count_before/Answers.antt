-- The label in the middle tells of those on one side of it.
use Rattle.std.proofs.Common.{◌+◌, ◌-◌, ◌/◌, ◌<◌, ◌≤◌, length, subst, arith, inl, inr, ◌⊎◌}
use Rattle.std.proofs.lemmas.Option.{slice_get_within}
use Rattle.burr_container.specs.Views.Containers.{HasPlan}
use Rattle.burr_frames.proofs.Common.Heres.{element_at}
use Rattle.burr_verify.proofs.LabelPlaces.{laid_out_here, place_of, as_many_here, up_to_middle, from_middle, before_or_not}
use Rattle.burr_verify.proofs.states.count_before.Goals as goal

pub loop-low-init : goal.loop-low-init
loop-low-init c = record {
  order = omega arith;
  few = omega arith;
  split = λ p here kept at k x standing. (
    (λ none. absurd (omega (arith, none))),
    (λ after.
        (let many = as_many_here c.args.procedure.container.now c.args.procedure.number c.label_count-count.result c.label_count-count.ensures.plan p here kept at in
        let inside = slice_get_within here.labels k x standing in
        absurd (omega (arith, many, inside, after)))),
  );
}

pub loop-low-preserved-then-from-place : goal.loop-low-preserved-then-from-place
loop-low-preserved-then-from-place c = record {
  order = omega (arith, c.loop-low-test.true);
  few = c.loop-low.invariant.few;
  split = λ p here kept at k x standing.
      (let middle = c.loop-low.low + (c.loop-low.high - c.loop-low.low) / 2 in
      let many = as_many_here c.args.procedure.container.now c.args.procedure.number c.label_count-count.result c.label_count-count.ensures.plan p here kept at in
      let inside : middle < length here.labels = omega (arith, many, c.loop-low-test.true, c.loop-low.invariant.few) in
      let y = element_at here.labels middle inside in
      let place = place_of c.args.procedure.container.now c.args.procedure.number middle c.label.result c.label.ensures p here kept at y.0 y.1 in
      let less : y.0.0 < c.args.place = omega (arith, place, c.from.ensures, c.if-from-place.true) in
      let laid = laid_out_here c.args.procedure.container.now p c.args.procedure.number here (subst HasPlan c.container.ensures c.a_container_has_a_plan.ensures.plan) kept at in (
        (λ before. up_to_middle here laid middle y.0 y.1 c.args.place less k x standing before),
        (λ after. (c.loop-low.invariant.split p here kept at k x standing).1 after),
      ));
}

pub loop-low-preserved : goal.loop-low-preserved
loop-low-preserved c = record {
  order = omega (arith, c.loop-low-test.true);
  few = omega (arith, c.loop-low-test.true, c.loop-low.invariant.few);
  split = λ p here kept at k x standing.
      (let middle = c.loop-low.low + (c.loop-low.high - c.loop-low.low) / 2 in
      let many = as_many_here c.args.procedure.container.now c.args.procedure.number c.label_count-count.result c.label_count-count.ensures.plan p here kept at in
      let inside : middle < length here.labels = omega (arith, many, c.loop-low-test.true, c.loop-low.invariant.few) in
      let y = element_at here.labels middle inside in
      let place = place_of c.args.procedure.container.now c.args.procedure.number middle c.label.result c.label.ensures p here kept at y.0 y.1 in
      let more : c.args.place ≤ y.0.0 = omega (arith, place, c.from.ensures, c.if-from-place.false) in
      let laid = laid_out_here c.args.procedure.container.now p c.args.procedure.number here (subst HasPlan c.container.ensures c.a_container_has_a_plan.ensures.plan) kept at in (
        (λ before. (c.loop-low.invariant.split p here kept at k x standing).0 before),
        (λ after. from_middle here laid middle y.0 y.1 c.args.place more k x standing after),
      ));
}

pub returns-clause-before : goal.returns-clause-before
returns-clause-before c p here kept at k x standing =
    let split = c.loop-low.invariant.split p here kept at k x standing in
    (split.0, (λ less. back (before_or_not k c.loop-low.low) less split.1))
  where
    back : (k < c.loop-low.low) ⊎ (c.loop-low.low ≤ k) → x.0 < c.args.place → (c.loop-low.high ≤ k → c.args.place ≤ x.0) → k < c.loop-low.low
    back (inl before) less split = before
    back (inr after) less split =
        let more = split (omega (arith, after, c.loop-low-test.false, c.loop-low.invariant.order)) in
        absurd (omega (arith, more, less))
