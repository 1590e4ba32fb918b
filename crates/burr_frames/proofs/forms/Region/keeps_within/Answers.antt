-- One form more is shown to stay in its range, or one is not.
use Rattle.std.proofs.Common.{pos, ℤ, refl, slice_index_or}
use Rattle.burr_text.proofs.Common.Tests.{no_iff, no_of, yes_of}
use Rattle.burr_forms.specs.Rules.Conditions.{region}
use Rattle.burr_frames.specs.Views.Shown.{ShowsWithin}
use Rattle.burr_frames.proofs.Settled.{pair_at, pair_more}
use Rattle.burr_frames.proofs.forms.Region.keeps_within.Goals as goal

pub returns-then-not-shows_within : goal.returns-then-not-shows_within
returns-then-not-shows_within c =
    let range : ℤ × ℤ = slice_index_or c.args.ranges.now c.loop-place.place (pos 0, pos 0) in
    no_iff
    (λ each. no_of c.if-not-shows_within.ensures
    (pair_at (ShowsWithin (region c.args.self.now.ranges.now c.args.self.now.guards.now)) c.args.forms.now c.args.ranges.now c.loop-place.place
    c.index-forms-place.result c.index-forms-place.result range (pos 0, pos 0) c.loop-place-test.true c.index-forms-place.is refl each))

pub loop-place-preserved : goal.loop-place-preserved
loop-place-preserved c =
    let range : ℤ × ℤ = slice_index_or c.args.ranges.now c.loop-place.place (pos 0, pos 0) in
    pair_more (ShowsWithin (region c.args.self.now.ranges.now c.args.self.now.guards.now)) c.args.forms.now c.args.ranges.now c.loop-place.place
    c.index-forms-place.result c.index-forms-place.result range (pos 0, pos 0) c.loop-place-test.true c.requires.places c.index-forms-place.is refl
    (yes_of c.if-not-shows_within.ensures) c.loop-place.invariant
