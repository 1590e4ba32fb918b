-- A step that goes clear and is paid for, and one that is taken back.
use Rattle.std.proofs.Common.{rules, refl, ◌≡◌, ◌≢◌, ◌∙◌, List, Result, Ok, Err, ap, sym, subst, inl, inr}
use Rattle.std.specs.Prelude.{⊤, ◌⊎◌, pos}
use Rattle.std.specs.Result.{result_and}
use Rattle.std.proofs.lemmas.Result.{IfErr-at_err}
use Rattle.burr_text.proofs.Common.Tests.{yes_of, no_of}
use Rattle.burr_code.specs.declared.placement.Placement.{Placement}
use Rattle.burr_assembly.specs.Rules.Homes.{homes_of}
use Rattle.burr_blocking.specs.declared.blocking.Query.TheVariants as queries
use Rattle.burr_blocking.specs.Rules.Counted.{HasCounted}
use Rattle.burr_container.specs.Rules.Plans.{FormCell}
use Rattle.burr_forms.specs.Rules.Forms.{Form}
use Rattle.burr_frames.specs.declared.rule.Break.{Break}
use Rattle.burr_frames.specs.declared.rule.Rule.TheVariants as rules_of
use Rattle.burr_frames.specs.Views.Breaks.{broken_of, IsPaid, Pays}
use Rattle.burr_frames.specs.Views.Changes.{at_cost, with_places}
use Rattle.burr_frames.specs.Views.Moving.{ClearOrBreaks}
use Rattle.burr_frames.specs.Rules.Looks.{clearing_looks}
use Rattle.burr_frames.specs.Rules.SpaceRules.{OnBenchAt, PairAt, DoesNotOverlap, moved, AllSmallPlaces}
use Rattle.burr_frames.specs.Rules.States.{AbstractState}
use Rattle.burr_frames.specs.Rules.Verdicts.{Breaks, FallsThrough, falls_through, paying}
use Rattle.burr_frames.proofs.GripLooks.{step_looks_on, step_looks_large}
use Rattle.burr_frames.proofs.MoveVerdicts.{clear_on, clear_breaks}
use Rattle.burr_frames.proofs.Paying.{paying_on, paying_breaks}
use Rattle.burr_frames.proofs.ShiftedPlaces.{moved_back}
use Rattle.burr_frames.proofs.state.State.step.Goals as goal

-- Both answers

both_ok : (clear : Result ⊤ Break) (paid : Result Form Break) (cost : Form) → result_and clear paid ≡ Ok cost
    → (clear ≡ Ok tt) × (paid ≡ Ok cost)
both_ok (Ok tt) paid cost is = (refl, is)
both_ok (Err broken) paid cost is = cc

first_err : (clear : Result ⊤ Break) (paid : Result Form Break) (broken : Break) → result_and clear paid ≡ Err broken
    → (clear ≡ Err broken) ⊎ ((clear ≡ Ok tt) × (paid ≡ Err broken))
first_err (Ok tt) paid broken is = inr (refl, is)
first_err (Err other) paid broken is = inl (ap Err (IfErr-at_err (λ (e : Break). other ≡ e) is refl))

pub shift-requires-in-Err : goal.shift-requires-in-Err
shift-requires-in-Err g c =
    let s = c.args.self.now in
    let back = c.opposite.result in
    let same = ap (λ (a : AbstractState). moved a.grip back a.places) c.shift.ensures
    ∙ moved_back c.args.direction back (c.opposite.ensures (pos 1)) s.grip s.places in
    subst AllSmallPlaces (sym same) (subst (λ (a : AbstractState). AllSmallPlaces a.places) c.self.view_is c.self.invariant.places)

pub returns-in-Err-clause-kept : goal.returns-in-Err-clause-kept
returns-in-Err-clause-kept g c =
    let s = c.args.self.now in
    let back = c.opposite.result in
    c.shift-in-Err.ensures ∙ ap (λ (a : AbstractState). with_places (moved a.grip back a.places) a) c.shift.ensures
    ∙ ap (λ (places : List (Placement FormCell)). with_places places s)
    (moved_back c.args.direction back (c.opposite.ensures (pos 1)) s.grip s.places)

pub returns-in-Ok-clause-verdict : goal.returns-in-Ok-clause-verdict
returns-in-Ok-clause-verdict g c =
    let s = c.args.self.now in
    let homes = homes_of c.args.looks.now.assembly in
    let new = moved s.grip c.args.direction s.places in
    let some : s.grip ≢ 0 = search rules in
    let cost = c.in-Ok.cost in
    let both = both_ok c.goes_clear-clear.result c.paid.result cost (sym c.and.ensures ∙ c.in-Ok.is) in
    let clear = subst (λ (a : AbstractState). ClearOrBreaks homes a a.places queries.Overlap rules_of.Collision c.goes_clear-clear.result)
    c.shift.ensures c.goes_clear-clear.ensures.verdict in
    let paid : IsPaid (with_places new s) cost =
    subst (Pays (with_places new s)) both.1 (subst (λ (a : AbstractState). Pays a c.paid.result) c.shift.ensures c.paid.ensures) in
    let changed : c.set_cost.new.self ≡ with_places new (at_cost cost s) = c.set_cost.ensures ∙ ap (at_cost cost) c.shift.ensures in
    inr (
      some,
      inr (
        rw (c.places.ensures.places, c.grip.ensures) at (yes_of c.if-not-can_shift_group.ensures),
        clear_on s (OnBenchAt new s.tray) (PairAt DoesNotOverlap homes new s.tray s.grip) rules_of.OffBench rules_of.Collision
            (paying s λ paid. falls_through (with_places new paid)) (FallsThrough c.set_cost.new.self)
            (subst (ClearOrBreaks homes s new queries.Overlap rules_of.Collision) both.0 clear)
            (paying_on s cost (λ paid. falls_through (with_places new paid)) (FallsThrough c.set_cost.new.self)
            (record { is = paid.is; small = paid.small; enough = paid.enough }) (ap FallsThrough changed)),
      ),
    )

pub returns-in-Err-clause-verdict : goal.returns-in-Err-clause-verdict
returns-in-Err-clause-verdict g c =
    let s = c.args.self.now in
    let homes = homes_of c.args.looks.now.assembly in
    let new = moved s.grip c.args.direction s.places in
    let some : s.grip ≢ 0 = search rules in
    let broken = c.in-Err.broken in
    let rest = paying s λ paid. falls_through (with_places new paid) in
    let clear = subst (λ (a : AbstractState). ClearOrBreaks homes a a.places queries.Overlap rules_of.Collision c.goes_clear-clear.result)
    c.shift.ensures c.goes_clear-clear.ensures.verdict in
    let paid = subst (λ (a : AbstractState). Pays a c.paid.result) c.shift.ensures c.paid.ensures in
    inr (
      some,
      inr (
        rw (c.places.ensures.places, c.grip.ensures) at (yes_of c.if-not-can_shift_group.ensures),
        elim (first_err c.goes_clear-clear.result c.paid.result broken (sym c.and.ensures ∙ c.in-Err.is)) [
          | inl unclear ↦
              clear_breaks s (OnBenchAt new s.tray) (PairAt DoesNotOverlap homes new s.tray s.grip) rules_of.OffBench rules_of.Collision rest
              (broken_of broken) (subst (ClearOrBreaks homes s new queries.Overlap rules_of.Collision) unclear clear)
          | inr unpaid ↦
              clear_on s (OnBenchAt new s.tray) (PairAt DoesNotOverlap homes new s.tray s.grip) rules_of.OffBench rules_of.Collision rest
              (Breaks (broken_of broken)) (subst (ClearOrBreaks homes s new queries.Overlap rules_of.Collision) unpaid.0 clear)
              (paying_breaks s broken (λ paid. falls_through (with_places new paid)) (subst (Pays (with_places new s)) unpaid.1 paid))
        ],
      ),
    )

pub returns-then-not-can_shift_group-clause-counted : goal.returns-then-not-can_shift_group-clause-counted
returns-then-not-can_shift_group-clause-counted g c =
    let some : c.args.self.now.grip ≢ 0 = search rules in
    step_looks_large (homes_of c.args.looks.now.assembly) c.args.self.now c.args.direction c.args.looks.now some
    (rw (c.places.ensures.places, c.grip.ensures) at (no_of c.if-not-can_shift_group.ensures))

pub returns-in-Ok-clause-counted : goal.returns-in-Ok-clause-counted
returns-in-Ok-clause-counted g c =
    let homes = homes_of c.args.looks.now.assembly in
    let some : c.args.self.now.grip ≢ 0 = search rules in
    step_looks_on homes c.args.self.now c.args.direction c.args.looks.now c.goes_clear-clear.new.looks some (rw (c.places.ensures.places, c.grip.ensures) at (yes_of c.if-not-can_shift_group.ensures))
    (subst (λ (a : AbstractState). HasCounted (clearing_looks homes a a.places queries.Overlap) c.args.looks.now c.goes_clear-clear.new.looks)
    c.shift.ensures c.goes_clear-clear.ensures.counted)

pub returns-in-Err-clause-counted : goal.returns-in-Err-clause-counted
returns-in-Err-clause-counted g c =
    let homes = homes_of c.args.looks.now.assembly in
    let some : c.args.self.now.grip ≢ 0 = search rules in
    step_looks_on homes c.args.self.now c.args.direction c.args.looks.now c.goes_clear-clear.new.looks some (rw (c.places.ensures.places, c.grip.ensures) at (yes_of c.if-not-can_shift_group.ensures))
    (subst (λ (a : AbstractState). HasCounted (clearing_looks homes a a.places queries.Overlap) c.args.looks.now c.goes_clear-clear.new.looks)
    c.shift.ensures c.goes_clear-clear.ensures.counted)
