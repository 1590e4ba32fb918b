use Rattle.std.proofs.Common.{take}
use Rattle.std.specs.List.{AllZip}
use Rattle.burr_forms.specs.Rules.Conditions.{region}
use Rattle.burr_frames.specs.Views.Shown.{ShowsWithin}
use Rattle.burr_frames.proofs.forms.Region.keeps_within.Given as goal

-- the first forms are shown to stay in their ranges
abbrev pub invariant-loop-place : goal.invariant-loop-place
invariant-loop-place l =
    AllZip (ShowsWithin (region l.self.ranges.now l.self.guards.now)) (take l.place l.forms) (take l.place l.ranges)
