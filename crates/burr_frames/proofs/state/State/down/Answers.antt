-- The label is not there, the counter can't be lowered, the state does not arrive, and it does.
use Rattle.std.proofs.Common.{◌≡◌, ◌<◌, ◌∙◌, length, ap, sym, subst, inl}
use Rattle.std.proofs.lemmas.Result.{err_from_is_err_and}
use Rattle.burr_container.specs.Views.Refs.{frame_of}
use Rattle.burr_frames.specs.Rules.FramedPlans.{framed}
use Rattle.burr_frames.specs.Rules.States.{AbstractState}
use Rattle.burr_frames.specs.Rules.Verdicts.{Breaks, FallsThrough, NoSuccessor, falls_through, no_successor, arriving}
use Rattle.burr_frames.specs.Rules.ControlRules.{counted_down, counted_out, guarded}
use Rattle.burr_frames.specs.Views.Breaks.{broken_of}
use Rattle.burr_frames.specs.Views.Changes.{at_cost}
use Rattle.burr_frames.proofs.Arrivals.{arriving_on, arriving_breaks}
use Rattle.burr_frames.proofs.Counters.{branches, paid_for, lowering_breaks, lowering_on, lowered_state, lowered_room, counting_on, counting_breaks}
use Rattle.burr_frames.proofs.state.State.down.Goals as goal

pub returns-in_err-frame-clause-verdict : goal.returns-in_err-frame-clause-verdict
returns-in_err-frame-clause-verdict c = λ p here is e.
    let none = c.in_err-frame.ensures p here is e in
    let r = err_from_is_err_and c.from_residual.result c.from_residual.ensures.1 in
    rw (r.1, r.2) (inl (none.0, ap Breaks none.1))

pub returns-in_err-count-clause-verdict : goal.returns-in_err-count-clause-verdict
returns-in_err-count-clause-verdict c = λ p here is e.
    let found = c.in_ok-frame.ensures p here is e in
    let r = err_from_is_err_and c.from_residual-in_err-count.result c.from_residual-in_err-count.ensures.1 in
    rw (r.1, r.2)
    (counting_breaks here c.args.self.now c.args.v c.args.label found.0 (framed (frame_of c.in_ok-frame.frame))
    c.in_err-count.field-0.0 (branches c.args.v) found.1 (c.in_err-count.ensures.counter p here is e))

pub returns-in_err-branch-clause-verdict : goal.returns-in_err-branch-clause-verdict
returns-in_err-branch-clause-verdict c = λ p here is e.
    let s = c.args.self.now in
    let v = c.args.v in
    let count = c.in_ok-count.count in
    let to = framed (frame_of c.in_ok-frame.frame) in
    let found = c.in_ok-frame.ensures p here is e in
    let broken = broken_of c.in_err-branch.field-0.0 in
    let r = err_from_is_err_and c.from_residual-in_err-branch.result c.from_residual-in_err-branch.ensures.1 in
    rw (r.1, r.2)
    (counting_on here s v c.args.label found.0 to count (branches v) (Breaks broken) found.1
    (c.in_ok-count.ensures.counter p here is e)
    (lowering_breaks s count (counted_down v count) (λ paid. branches v count paid to) broken c.in_err-branch.ensures))

pub returns-in_err-arrives_or_breaks-clause-verdict :
    goal.returns-in_err-arrives_or_breaks-clause-verdict
returns-in_err-arrives_or_breaks-clause-verdict c = λ p here is e.
    let s = c.args.self.now in
    let v = c.args.v in
    let count = c.in_ok-count.count in
    let branch = c.in_ok-branch.branch in
    let to = framed (frame_of c.in_ok-frame.frame) in
    let found = c.in_ok-frame.ensures p here is e in
    let lowered = lowered_state s count (counted_down v count) branch c.in_ok-branch.ensures in
    let broken = broken_of c.in_err-arrives_or_breaks.field-0.0 in
    let misses = subst (λ (a : AbstractState). arriving a to no_successor (Breaks broken)) lowered c.in_err-arrives_or_breaks.ensures in
    let r = err_from_is_err_and c.from_residual-in_err-arrives_or_breaks.result c.from_residual-in_err-arrives_or_breaks.ensures.1 in
    rw (r.1, r.2)
    (counting_on here s v c.args.label found.0 to count (branches v) (Breaks broken) found.1
    (c.in_ok-count.ensures.counter p here is e)
    (lowering_on s count (counted_down v count) (λ paid. branches v count paid to) branch (Breaks broken) c.in_ok-branch.ensures
    (arriving_breaks (counted_down v count (paid_for s)) to (falls_through (counted_out count (paid_for s))) broken misses)))

pub returns-clause-verdict : goal.returns-clause-verdict
returns-clause-verdict c = λ p here is e.
    let s = c.args.self.now in
    let v = c.args.v in
    let count = c.in_ok-count.count in
    let branch = c.in_ok-branch.branch in
    let to = framed (frame_of c.in_ok-frame.frame) in
    let found = c.in_ok-frame.ensures p here is e in
    let lowered = lowered_state s count (counted_down v count) branch c.in_ok-branch.ensures in
    let cost = ap (λ (a : AbstractState). a.cost) (c.branch.view_is ∙ lowered) in
    let arrives = subst (λ (a : AbstractState). arriving a to no_successor NoSuccessor) lowered c.in_ok-arrives_or_breaks.ensures in
    let out : c.add_guard.new.self ≡ counted_out count (paid_for s) =
    c.add_guard.ensures
    ∙ (λ i. guarded (c.negated.ensures.form i) ((c.set_cost.ensures ∙ ap (λ k. at_cost k s) cost) i)) in
    counting_on here s v c.args.label found.0 to count (branches v) (FallsThrough c.add_guard.new.self) found.1
    (c.in_ok-count.ensures.counter p here is e)
    (lowering_on s count (counted_down v count) (λ paid. branches v count paid to) branch (FallsThrough c.add_guard.new.self)
    c.in_ok-branch.ensures
    (arriving_on (counted_down v count (paid_for s)) to (falls_through (counted_out count (paid_for s))) (FallsThrough c.add_guard.new.self)
    arrives (ap FallsThrough out)))

-- What the calls ask for

pub lowered-requires-clause-small : goal.lowered-requires-clause-small
lowered-requires-clause-small c = c.in_ok-count.ensures.small

pub negated-requires : goal.negated-requires
negated-requires c = record { small = c.in_ok-count.ensures.small }

pub add_guard-requires-clause-room : goal.add_guard-requires-clause-room
add_guard-requires-clause-room c =
    subst (λ (a : AbstractState). length a.guards < 8) (sym c.set_cost.ensures)
    (lowered_room c.args.self.now c.in_ok-count.count (counted_down c.args.v c.in_ok-count.count) c.in_ok-branch.branch
    c.in_ok-branch.ensures)

pub add_guard-requires-clause-small : goal.add_guard-requires-clause-small
add_guard-requires-clause-small c = c.negated.ensures.small
