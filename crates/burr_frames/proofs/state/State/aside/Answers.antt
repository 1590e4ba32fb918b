-- A piece off the bench or in another's way, a step that can't be paid for, and one that is made.
use Rattle.std.proofs.Common.{◌≡◌, ◌∙◌, ap, inl, inr}
use Rattle.std.proofs.lemmas.Result.{err_from_is_err_and}
use Rattle.burr_text.proofs.Common.Tests.{yes_of, no_of}
use Rattle.burr_code.specs.Places.{aside_places}
use Rattle.burr_assembly.specs.Rules.Homes.{homes_of}
use Rattle.burr_frames.specs.declared.rule.Rule.TheVariants as rules
use Rattle.burr_frames.specs.Views.Breaks.{broken_of}
use Rattle.burr_frames.specs.Views.Changes.{at_cost, with_grip, with_places}
use Rattle.burr_frames.specs.Rules.SpaceRules.{OnBenchAt, PairAt, GoesFree}
use Rattle.burr_frames.specs.Rules.States.{AbstractState}
use Rattle.burr_frames.specs.Rules.Verdicts.{Breaks, FallsThrough, falls_through, paying}
use Rattle.burr_frames.proofs.GripLooks.{aside_looks_on, aside_looks_whole, aside_looks_in_use}
use Rattle.burr_frames.proofs.MoveVerdicts.{clear_on, clear_breaks}
use Rattle.burr_frames.proofs.Paying.{paying_on, paying_breaks}
use Rattle.burr_frames.proofs.state.State.aside.Goals as goal

pub returns-then-not-is_empty_tray-clause-verdict : goal.returns-then-not-is_empty_tray-clause-verdict
returns-then-not-is_empty_tray-clause-verdict g c =
    inr (
      rw (c.grip.ensures, c.places.ensures.places, c.tray.ensures) at (yes_of c.if-not-is_part_of_tray.ensures),
      inl (rw c.places-2.ensures.places at (no_of c.if-not-is_empty_tray.ensures), ap Breaks c.plain-then-not-is_empty_tray.ensures),
    )

pub returns-in_err-goes_clear-clause-verdict : goal.returns-in_err-goes_clear-clause-verdict
returns-in_err-goes_clear-clause-verdict g c =
    let s = c.args.self.now in
    let homes = homes_of c.args.looks.now.assembly in
    let new = aside_places s.grip s.tray c.args.tray s.places in
    let broken = c.in_err-goes_clear.field-0.0 in
    let p = err_from_is_err_and c.from_residual.result c.from_residual.ensures.1 in
    rw (p.1, p.2)
    (inr (
      rw (c.grip.ensures, c.places.ensures.places, c.tray.ensures) at (yes_of c.if-not-is_part_of_tray.ensures),
      inr (
        rw c.places-2.ensures.places at (yes_of c.if-not-is_empty_tray.ensures),
        clear_breaks s (OnBenchAt s.places s.tray) (PairAt (GoesFree c.args.direction) homes s.places s.tray s.grip) rules.OffBench rules.NotFree
            (paying s λ paid. falls_through (with_grip 0 (with_places new paid))) (broken_of broken)
            c.in_err-goes_clear.ensures.verdict,
      ),
    ))

pub returns-in_err-cost-clause-verdict : goal.returns-in_err-cost-clause-verdict
returns-in_err-cost-clause-verdict g c =
    let s = c.args.self.now in
    let homes = homes_of c.args.looks.now.assembly in
    let new = aside_places s.grip s.tray c.args.tray s.places in
    let broken = c.in_err-cost.field-0.0 in
    let p = err_from_is_err_and c.from_residual-in_err-cost.result c.from_residual-in_err-cost.ensures.1 in
    rw (p.1, p.2)
    (inr (
      rw (c.grip.ensures, c.places.ensures.places, c.tray.ensures) at (yes_of c.if-not-is_part_of_tray.ensures),
      inr (
        rw c.places-2.ensures.places at (yes_of c.if-not-is_empty_tray.ensures),
        clear_on s (OnBenchAt s.places s.tray) (PairAt (GoesFree c.args.direction) homes s.places s.tray s.grip) rules.OffBench rules.NotFree
            (paying s λ paid. falls_through (with_grip 0 (with_places new paid))) (Breaks (broken_of broken))
            c.in_ok-goes_clear.ensures.verdict
            (paying_breaks s broken (λ paid. falls_through (with_grip 0 (with_places new paid))) c.in_err-cost.ensures),
      ),
    ))

pub returns-clause-verdict : goal.returns-clause-verdict
returns-clause-verdict g c =
    let s = c.args.self.now in
    let homes = homes_of c.args.looks.now.assembly in
    let new = aside_places s.grip s.tray c.args.tray s.places in
    let cost = c.in_ok-cost.cost in
    let changed : c.go_aside.new.self ≡ with_grip 0 (with_places new (at_cost cost s)) =
    c.go_aside.ensures
    ∙ ap (λ (a : AbstractState). with_grip 0 (with_places (aside_places a.grip a.tray c.args.tray a.places) a)) c.set_cost.ensures in
    inr (
      rw (c.grip.ensures, c.places.ensures.places, c.tray.ensures) at (yes_of c.if-not-is_part_of_tray.ensures),
      inr (
        rw c.places-2.ensures.places at (yes_of c.if-not-is_empty_tray.ensures),
        clear_on s (OnBenchAt s.places s.tray) (PairAt (GoesFree c.args.direction) homes s.places s.tray s.grip) rules.OffBench rules.NotFree
            (paying s λ paid. falls_through (with_grip 0 (with_places new paid))) (FallsThrough c.go_aside.new.self)
            c.in_ok-goes_clear.ensures.verdict
            (paying_on s cost (λ paid. falls_through (with_grip 0 (with_places new paid))) (FallsThrough c.go_aside.new.self) c.in_ok-cost.ensures (ap FallsThrough changed)),
      ),
    )

pub returns-then-not-is_part_of_tray-clause-counted : goal.returns-then-not-is_part_of_tray-clause-counted
returns-then-not-is_part_of_tray-clause-counted g c =
    aside_looks_whole (homes_of c.args.looks.now.assembly) c.args.self.now c.args.direction c.args.tray c.args.looks.now
    (rw (c.grip.ensures, c.places.ensures.places, c.tray.ensures) at (no_of c.if-not-is_part_of_tray.ensures))

pub returns-then-not-is_empty_tray-clause-counted : goal.returns-then-not-is_empty_tray-clause-counted
returns-then-not-is_empty_tray-clause-counted g c =
    aside_looks_in_use (homes_of c.args.looks.now.assembly) c.args.self.now c.args.direction c.args.tray c.args.looks.now
    (rw (c.grip.ensures, c.places.ensures.places, c.tray.ensures) at (yes_of c.if-not-is_part_of_tray.ensures)) (rw c.places-2.ensures.places at (no_of c.if-not-is_empty_tray.ensures))

pub returns-in_err-goes_clear-clause-counted : goal.returns-in_err-goes_clear-clause-counted
returns-in_err-goes_clear-clause-counted g c =
    aside_looks_on (homes_of c.args.looks.now.assembly) c.args.self.now c.args.direction c.args.tray c.args.looks.now
    c.goes_clear.new.looks (rw (c.grip.ensures, c.places.ensures.places, c.tray.ensures) at (yes_of c.if-not-is_part_of_tray.ensures)) (rw c.places-2.ensures.places at (yes_of c.if-not-is_empty_tray.ensures))
    c.in_err-goes_clear.ensures.counted

pub returns-in_err-cost-clause-counted : goal.returns-in_err-cost-clause-counted
returns-in_err-cost-clause-counted g c =
    aside_looks_on (homes_of c.args.looks.now.assembly) c.args.self.now c.args.direction c.args.tray c.args.looks.now
    c.goes_clear.new.looks (rw (c.grip.ensures, c.places.ensures.places, c.tray.ensures) at (yes_of c.if-not-is_part_of_tray.ensures)) (rw c.places-2.ensures.places at (yes_of c.if-not-is_empty_tray.ensures))
    c.in_ok-goes_clear.ensures.counted

pub returns-clause-counted : goal.returns-clause-counted
returns-clause-counted g c =
    aside_looks_on (homes_of c.args.looks.now.assembly) c.args.self.now c.args.direction c.args.tray c.args.looks.now
    c.goes_clear.new.looks (rw (c.grip.ensures, c.places.ensures.places, c.tray.ensures) at (yes_of c.if-not-is_part_of_tray.ensures)) (rw c.places-2.ensures.places at (yes_of c.if-not-is_empty_tray.ensures))
    c.in_ok-goes_clear.ensures.counted
