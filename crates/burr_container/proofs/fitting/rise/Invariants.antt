-- The labels from here on decide.
use Rattle.std.proofs.Common.{◌≡◌, drop}
use Rattle.burr_container.specs.Rules.Fitting.{rise_from}
use Rattle.burr_container.proofs.fitting.rise.Given as goal

abbrev pub invariant-loop-label : goal.invariant-loop-label
invariant-loop-label l =
    rise_from l.least l.end (drop l.label-index l.labels) ≡ rise_from 0 l.end l.labels
