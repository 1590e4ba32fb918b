-- The search over the values of these forms is the one over the forms.
use Rattle.std.proofs.Common.{subst}
use Rattle.burr_text.proofs.Common.Tests.{yes_of}
use Rattle.burr_forms.specs.Rules.Conditions.{Region, Throughout, FailsFirstAt}
use Rattle.burr_forms.specs.Rules.Forms.{Point, values}
use Rattle.burr_frames.specs.Views.Ranges.{AllInReach}
use Rattle.burr_frames.proofs.Reaches.{throughout_within}
use Rattle.burr_frames.proofs.state.State.stays_within.Goals as goal

pub returns-then-lie_within : goal.returns-then-lie_within
returns-then-lie_within c =
    subst (λ (r : Region). Throughout r (λ (point : Point). AllInReach c.args.reach (values point c.args.forms.now))) c.region-here.ensures.points
    (throughout_within _ c.args.forms.now c.args.reach (yes_of c.if-lie_within.ensures))

pub returns-in-None : goal.returns-in-None
returns-in-None c =
    subst (λ (r : Region). Throughout r (λ (point : Point). AllInReach c.args.reach (values point c.args.forms.now))) c.region-here.ensures.points
    c.in-None.ensures

pub returns-in-Some : goal.returns-in-Some
returns-in-Some c =
    let point = c.in-Some.point.items in (
      point,
      subst (λ (r : Region). FailsFirstAt r (λ (x : Point). AllInReach c.args.reach (values x c.args.forms.now)) point) c.region-here.ensures.points
          c.in-Some.ensures,
      c.at.ensures,
    )
