-- The label is one of the plan's, or there is no such label.
use Rattle.std.proofs.Common.{◌<◌, ◌∙◌, length, sym, ap, Some, arith}
use Rattle.std.specs.Prelude.{slice_get}
use Rattle.std.proofs.lemmas.Option.{slice_get_past}
use Rattle.burr_container.specs.Rules.Plans.{Frame}
use Rattle.burr_frames.specs.Rules.FramedPlans.{framed}
use Rattle.burr_frames.proofs.Common.Heres.{procedure_here, label_here, as_many_labels, element_at}
use Rattle.burr_frames.proofs.state.instructions.frame_at.Goals as goal

pub returns-then-label-label_count : goal.returns-then-label-label_count
returns-then-label-label_count c = λ p here is e.
    let q = procedure_here p c.args.procedure.number here e in
    let many = as_many_labels q.0 here q.2 in
    let count = c.label_count.ensures.plan p q.0 is q.1 in
    (slice_get_past here.labels c.args.label (omega (arith, many, count, c.if-label-label_count.true, c.from-label.ensures)), c.plain.ensures)

pub returns : goal.returns
returns c = λ p here is e.
    let q = procedure_here p c.args.procedure.number here e in
    let count = c.label_count.ensures.plan p q.0 is q.1 in
    let n = c.from-label.result in
    let inside : n < length q.0.labels = omega (arith, count, c.if-label-label_count.false) in
    let l = element_at q.0.labels n inside in (
      l.0.0,
      ap (slice_get here.labels) (sym c.from-label.ensures)
          ∙ label_here q.0 here n l.0 q.2 l.1
          ∙ ap (λ (f : Frame). Some (l.0.0, framed f)) (sym (c.frame.ensures.plan p q.0 is q.1 l.0 l.1)),
    )
