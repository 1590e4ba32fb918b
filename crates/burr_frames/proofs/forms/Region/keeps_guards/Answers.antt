-- One guard more is shown to hold, or one is not.
use Rattle.std.proofs.Common.{sym, subst}
use Rattle.std.proofs.lemmas.List.{take_all}
use Rattle.std.proofs.lemmas.List.Elements.{All-more}
use Rattle.burr_text.proofs.Common.Tests.{no_iff, yes_iff, no_of, yes_of}
use Rattle.burr_forms.specs.Rules.Conditions.{region}
use Rattle.burr_frames.specs.Views.Shown.{IsWith, ShowsNotNegative, ShowsGuards}
use Rattle.burr_frames.proofs.forms.Region.keeps_guards.Goals as goal

pub returns-in_default : goal.returns-in_default
returns-in_default c =
    let P = IsWith c.args.arguments.now (ShowsNotNegative (region c.args.self.now.ranges.now c.args.self.now.guards.now)) in
    no_iff
    (λ all. c.in_default.ensures (subst P (sym c.guard-item.is) (all c.loop-guard.guard-index c.guard-item.result c.loop-guard-test.true)).0)

pub returns-then-not-shows_not_negative : goal.returns-then-not-shows_not_negative
returns-then-not-shows_not_negative c =
    let r = region c.args.self.now.ranges.now c.args.self.now.guards.now in
    let guard = c.guard-item.result in
    no_iff
    (λ all. no_of c.if-not-shows_not_negative.ensures
    (subst (ShowsNotNegative r) (sym c.in-Ok.ensures.0)
    (subst (IsWith c.args.arguments.now (ShowsNotNegative r)) (sym c.guard-item.is) (all c.loop-guard.guard-index guard c.loop-guard-test.true)).1))

pub loop-guard-preserved : goal.loop-guard-preserved
loop-guard-preserved c =
    let r = region c.args.self.now.ranges.now c.args.self.now.guards.now in
    let shown = yes_of c.if-not-shows_not_negative.ensures in
    All-more (IsWith c.args.arguments.now (ShowsNotNegative r)) c.args.guards.now c.loop-guard.guard-index c.guard-item.result
    c.loop-guard-test.true c.loop-guard.invariant
    (subst (IsWith c.args.arguments.now (ShowsNotNegative r)) c.guard-item.is
    (c.in-Ok.ensures.1, subst (ShowsNotNegative r) c.in-Ok.ensures.0 shown))

pub returns : goal.returns
returns c =
    let r = region c.args.self.now.ranges.now c.args.self.now.guards.now in
    yes_iff
    (subst (ShowsGuards r c.args.arguments.now) (take_all c.loop-guard.guard-index c.args.guards.now c.loop-guard-test.false) c.loop-guard.invariant)
