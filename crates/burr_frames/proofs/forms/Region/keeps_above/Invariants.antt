use Rattle.std.proofs.Common.{take}
use Rattle.burr_forms.specs.Rules.Conditions.{region}
use Rattle.burr_frames.specs.Views.Shown.{ShowsNoneBelow}
use Rattle.burr_frames.proofs.forms.Region.keeps_above.Given as goal

-- the first forms are shown not to be below the others
abbrev pub invariant-loop-place : goal.invariant-loop-place
invariant-loop-place l =
    ShowsNoneBelow (region l.self.ranges.now l.self.guards.now) l.arguments (take l.place l.least) (take l.place l.forms)
