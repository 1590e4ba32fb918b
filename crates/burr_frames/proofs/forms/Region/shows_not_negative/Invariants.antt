use Rattle.std.proofs.Common.{take}
use Rattle.std.specs.Prelude.{All}
use Rattle.burr_frames.specs.Views.Shown.{IsNowhereNegative, IsAboveBy}
use Rattle.burr_frames.proofs.forms.Region.shows_not_negative.Given as goal

-- the form is shown to be above none of the first guards
abbrev pub invariant-loop-guard : goal.invariant-loop-guard
invariant-loop-guard l =
    All (λ guard. ¬ IsAboveBy (IsNowhereNegative l.self.ranges.now) l.form guard) (take l.guard-index l.self.guards.now)
