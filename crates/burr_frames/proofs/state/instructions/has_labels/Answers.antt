-- A label that is not there, and all that are.
use Rattle.std.proofs.Common.{◌<◌, sym, arith}
use Rattle.std.proofs.lemmas.Option.{slice_get_within}
use Rattle.burr_text.proofs.Common.Tests.{yes_iff, no_iff}
use Rattle.burr_frames.proofs.Common.Heres.{procedure_here, as_many_labels, one_of_labelled, all_labelled}
use Rattle.burr_frames.proofs.state.instructions.has_labels.Goals as goal

pub returns-then-from-count : goal.returns-then-from-count
returns-then-from-count c = λ p here is e.
    let q = procedure_here p c.args.procedure.number here e in
    let many = as_many_labels q.0 here q.2 in
    let count = c.label_count-count.ensures.plan p q.0 is q.1 in
    no_iff (λ to.
    let inside = one_of_labelled here.labels c.args.labels.now c.loop-number.number c.in-Some.label to (sym c.in-Some.ensures) in
    absurd (omega (arith, many, count, c.if-from-count.true, inside, c.from.ensures)))

pub returns : goal.returns
returns c = λ p here is e.
    let q = procedure_here p c.args.procedure.number here e in
    let many = as_many_labels q.0 here q.2 in
    let count = c.label_count-count.ensures.plan p q.0 is q.1 in
    yes_iff (all_labelled here.labels c.args.labels.now (λ k label found.
    let within = slice_get_within c.args.labels.now k label found in
    let inside : label < c.label_count-count.result = c.loop-number.invariant k label (omega (arith, within, c.loop-number-test.false, c.len-number-end.ensures.count)) found in
    omega (arith, many, count, inside)))
