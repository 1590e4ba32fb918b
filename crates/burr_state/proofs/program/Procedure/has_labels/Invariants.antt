use Rattle.burr_state.specs.Views.Programs.{HasFirstLabels}
use Rattle.burr_state.proofs.program.Procedure.has_labels.Given as goal

-- the labels so far are there
abbrev pub invariant-loop-number : goal.invariant-loop-number
invariant-loop-number l = HasFirstLabels l.number l.self.labels l.offer
