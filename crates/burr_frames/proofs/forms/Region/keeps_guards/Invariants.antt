use Rattle.std.proofs.Common.{take}
use Rattle.burr_forms.specs.Rules.Conditions.{region}
use Rattle.burr_frames.specs.Views.Shown.{ShowsGuards}
use Rattle.burr_frames.proofs.forms.Region.keeps_guards.Given as goal

-- the first guards are shown to hold
abbrev pub invariant-loop-guard : goal.invariant-loop-guard
invariant-loop-guard l =
    ShowsGuards (region l.self.ranges.now l.self.guards.now) l.arguments (take l.guard-index l.guards)
