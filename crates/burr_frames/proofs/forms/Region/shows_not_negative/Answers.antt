-- One guard more that the form is not above; at the end it is above none.
use Rattle.std.proofs.Common.{inl, inr, subst, arith}
use Rattle.std.specs.Prelude.{All}
use Rattle.std.proofs.lemmas.Int.{ints}
use Rattle.std.proofs.lemmas.List.{take_all}
use Rattle.std.proofs.lemmas.List.Elements.{All-more, All-contains}
use Rattle.burr_text.proofs.Common.Tests.{no_iff, no_of}
use Rattle.burr_forms.specs.Rules.Conditions.{Region, region}
use Rattle.burr_forms.specs.Rules.Forms.{Form}
use Rattle.burr_frames.specs.Views.Shown.{IsNowhereNegative, IsAboveBy, ShowsNotNegative}
use Rattle.burr_frames.proofs.forms.Region.shows_not_negative.Goals as goal

abbrev IsNotAbove : Region → Form → Form → Type 0
IsNotAbove r f guard = ¬ IsAboveBy (IsNowhereNegative r.ranges) f guard

none_shown : (r : Region) (f : Form) → (¬ IsNowhereNegative r.ranges f) → All (IsNotAbove r f) r.guards → ¬ ShowsNotNegative r f
none_shown r f somewhere none (inl nowhere) = somewhere nowhere
none_shown r f somewhere none (inr by) = All-contains (IsNotAbove r f) r.guards by.0 none by.1 by.2

pub loop-guard-preserved : goal.loop-guard-preserved
loop-guard-preserved c =
    let r = region c.args.self.now.ranges.now c.args.self.now.guards.now in
    All-more (IsNotAbove r c.args.form.now) r.guards c.loop-guard.guard-index c.guard-item.result c.loop-guard-test.true c.loop-guard.invariant
    (subst (IsNotAbove r c.args.form.now) c.guard-item.is (no_of c.if-is_above.ensures))

pub returns : goal.returns
returns c =
    let r = region c.args.self.now.ranges.now c.args.self.now.guards.now in
    let least = c.least_in.ensures in
    no_iff
    (none_shown r c.args.form.now
    (λ nowhere. let here = nowhere least.met.0 least.met.1 in omega (arith, ints, here, least.met.2, c.if-least_in-ge0.false))
    (subst (All (IsNotAbove r c.args.form.now)) (take_all c.loop-guard.guard-index r.guards c.loop-guard-test.false) c.loop-guard.invariant))
