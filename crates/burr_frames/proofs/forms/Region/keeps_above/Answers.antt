-- One form more is shown not to be below the other one, or one is not.
use Rattle.std.proofs.Common.{List, refl, sym, subst, slice_index_or}
use Rattle.burr_text.proofs.Common.Tests.{no_iff, no_of, yes_of}
use Rattle.burr_forms.specs.Rules.Conditions.{Region, region}
use Rattle.burr_forms.specs.Rules.Forms.{Form}
use Rattle.burr_frames.specs.Views.Shown.{IsWith, ShowsAbove}
use Rattle.burr_frames.proofs.Settled.{pair_at, pair_more}
use Rattle.burr_frames.proofs.forms.Region.keeps_above.Goals as goal

abbrev IsAbove : Region → List Form → Form → Form → Type 0
IsAbove r arguments f g = IsWith arguments (ShowsAbove r f) g

pub returns-in_default : goal.returns-in_default
returns-in_default c =
    let r = region c.args.self.now.ranges.now c.args.self.now.guards.now in
    let g = c.index-least-place.result in
    let f = slice_index_or c.args.forms.now c.loop-place.place g in
    no_iff
    (λ each. c.in_default.ensures
    (pair_at (IsAbove r c.args.arguments.now) c.args.forms.now c.args.least.now c.loop-place.place f g g g
    c.loop-place-test.true refl c.index-least-place.is each).0)

pub returns-then-not-shows_above : goal.returns-then-not-shows_above
returns-then-not-shows_above c =
    let r = region c.args.self.now.ranges.now c.args.self.now.guards.now in
    let f = c.index-forms-place.result in
    let g = c.index-least-place.result in
    no_iff
    (λ each. no_of c.if-not-shows_above.ensures
    (subst (ShowsAbove r f) (sym c.in-Ok.ensures.0)
    (pair_at (IsAbove r c.args.arguments.now) c.args.forms.now c.args.least.now c.loop-place.place f f g g
    c.loop-place-test.true c.index-forms-place.is c.index-least-place.is each).1))

pub loop-place-preserved : goal.loop-place-preserved
loop-place-preserved c =
    let r = region c.args.self.now.ranges.now c.args.self.now.guards.now in
    let f = c.index-forms-place.result in
    let g = c.index-least-place.result in
    pair_more (IsAbove r c.args.arguments.now) c.args.forms.now c.args.least.now c.loop-place.place f f g g
    c.loop-place-test.true c.requires.places c.index-forms-place.is c.index-least-place.is
    (c.in-Ok.ensures.1, subst (ShowsAbove r f) c.in-Ok.ensures.0 (yes_of c.if-not-shows_above.ensures))
    c.loop-place.invariant
