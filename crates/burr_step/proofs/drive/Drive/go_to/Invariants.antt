use Rattle.std.specs.Prelude.{◌-◌}
use Rattle.burr_step.specs.Rules.Drive.{GoesTo}
use Rattle.burr_step.specs.Views.Driving.{Goes}
use Rattle.burr_step.proofs.drive.Drive.go_to.Given as goal

-- whole moves were made, none past the one of the number
abbrev pub invariant-loop-self : goal.invariant-loop-self
invariant-loop-self l = Goes l.fn.self l.self (λ setup d e. GoesTo setup l.fn.number d e)

abbrev pub decreases-loop-self : goal.decreases-loop-self
decreases-loop-self l = l.fn.number - l.self.moves
