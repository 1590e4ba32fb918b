-- Label by label, and what is after the last one.
use Rattle.std.proofs.Common.{◌∙◌, ◌+◌, ◌≤◌, ℕ, List, sym, subst, drop, length, refl, arith}
use Rattle.std.proofs.lemmas.List.{drop_all}
use Rattle.std.proofs.lemmas.Option.{none-some}
use Rattle.std.proofs.lemmas.Result.{err_from_is_err_and}
use Rattle.burr_container.specs.Rules.Plans.{Frame}
use Rattle.burr_container.specs.Views.Refs.{frame_of}
use Rattle.burr_frames.specs.Rules.FramedPlans.{framed}
use Rattle.burr_frames.specs.Views.Breaks.{broken_of}
use Rattle.burr_frames.specs.Rules.Verdicts.{Breaks, NoSuccessor, no_successor, arriving_at_all}
use Rattle.burr_frames.proofs.Arrivals.{arriving_on, arriving_breaks}
use Rattle.burr_frames.proofs.Common.Heres.{as_many_labelled, labelled_at, one_of_labelled, element_at}
use Rattle.burr_container.proofs.Common.ListsRead.{drop_here}
use Rattle.burr_frames.proofs.state.State.arrives_at_all.Goals as goal

pub returns-in_err-frame : goal.returns-in_err-frame
returns-in_err-frame c = λ p here is e to all.
    let inside = one_of_labelled here.labels c.args.labels.now c.loop-number.number c.in-Some.label (to, all) (sym c.in-Some.ensures) in
    let there = element_at here.labels c.in-Some.label inside in
    absurd (none-some _ (sym (c.in_err-frame.ensures p here is e).0 ∙ there.1))

pub returns-in_err-arrives_or_breaks : goal.returns-in_err-arrives_or_breaks
returns-in_err-arrives_or_breaks c = λ p here is e to all.
    let s = c.args.self.now in
    let n = c.loop-number.number in
    let frame = framed (frame_of c.in_ok-frame.frame) in
    let found = c.in_ok-frame.ensures p here is e in
    let here_is = drop_here to n (found.0, frame)
    (labelled_at here.labels c.args.labels.now to n c.in-Some.label (found.0, frame) all (sym c.in-Some.ensures) found.1) in
    let broken = broken_of c.in_err-arrives_or_breaks.field-0.0 in
    let r = err_from_is_err_and c.from_residual-in_err-arrives_or_breaks.result c.from_residual-in_err-arrives_or_breaks.ensures.1 in
    rw (r.1, r.2)
    (c.loop-number.invariant p here is e to all (Breaks broken)
    (subst (λ (left : List (ℕ × Frame)). arriving_at_all s left no_successor (Breaks broken)) (sym here_is)
    (arriving_breaks s frame (arriving_at_all s (drop (n + 1) to) no_successor) broken c.in_err-arrives_or_breaks.ensures)))

pub loop-number-preserved : goal.loop-number-preserved
loop-number-preserved c = λ p here is e to all verdict rest.
    let s = c.args.self.now in
    let n = c.loop-number.number in
    let frame = framed (frame_of c.in_ok-frame.frame) in
    let found = c.in_ok-frame.ensures p here is e in
    let here_is = drop_here to n (found.0, frame)
    (labelled_at here.labels c.args.labels.now to n c.in-Some.label (found.0, frame) all (sym c.in-Some.ensures) found.1) in
    c.loop-number.invariant p here is e to all verdict
    (subst (λ (left : List (ℕ × Frame)). arriving_at_all s left no_successor verdict) (sym here_is)
    (arriving_on s frame (arriving_at_all s (drop (n + 1) to) no_successor) verdict c.in_ok-arrives_or_breaks.ensures rest))

pub returns : goal.returns
returns c = λ p here is e to all.
    let s = c.args.self.now in
    let n = c.loop-number.number in
    let many = as_many_labelled here.labels c.args.labels.now to all in
    let past : length to ≤ n = omega (arith, many, c.loop-number-test.false, c.len-number-end.ensures.count) in
    c.loop-number.invariant p here is e to all NoSuccessor
    (subst (λ (left : List (ℕ × Frame)). arriving_at_all s left no_successor NoSuccessor) (sym (drop_all n to past)) refl)
