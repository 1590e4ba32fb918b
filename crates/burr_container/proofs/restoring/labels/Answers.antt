-- One more label is read; at the end all are.
use Rattle.std.proofs.Common.{◌<◌, ◌∙◌, length, arith}
use Rattle.std.specs.Prelude.{slice_get}
use Rattle.burr_container.proofs.Common.ListsRead.{some_at, pushed, all_read}
use Rattle.burr_container.proofs.RestoredPlans.{has_label}
use Rattle.burr_container.proofs.restoring.labels.Goals as goal

pub frame-requires : goal.frame-requires
frame-requires c =
    let procedure = c.args.procedure.now in
    has_label (slice_get procedure.container.now.procedures procedure.number) c.loop-n.n c.label_count-n-end.result c.label_count-n-end.ensures.count
    c.loop-n-test.true

pub label-requires : goal.label-requires
label-requires c =
    let procedure = c.args.procedure.now in
    has_label (slice_get procedure.container.now.procedures procedure.number) c.loop-n.n c.label_count-n-end.result c.label_count-n-end.ensures.count
    c.loop-n-test.true

pub loop-n-preserved : goal.loop-n-preserved
loop-n-preserved c p q of at =
    let n = c.loop-n.n in
    let many = c.label_count-n-end.ensures.plan p q of at in
    let less : n < length q.labels = omega (arith, many, c.loop-n-test.true) in
    let l = some_at q.labels n less in
    let position = c.label.ensures p q of at l.0 l.1 in
    let frame = c.in_ok-frame.ensures ∙ c.frame.ensures.plan p q of at l.0 l.1 in
    pushed q.labels n c.loop-n.labels.items c.push.new.self.items l.0 (c.label.result, c.in_ok-frame.frame) l.1 (λ i. (position i, frame i))
    c.in_ok-push.ensures.items (c.loop-n.invariant p q of at)

pub returns : goal.returns
returns c p q of at =
    let many = c.label_count-n-end.ensures.plan p q of at in
    all_read q.labels c.loop-n.n c.loop-n.labels.items (omega (arith, many, c.loop-n-test.false, c.loop-n.auto.n-end)) (c.loop-n.invariant p q of at)
