use Rattle.burr_step.specs.Views.Stepping.{stepping, IsUndone}
use Rattle.burr_step.proofs.stepper.undo_last.Given as goal

-- the last `_step` steps are undone
abbrev pub invariant-loop-step : goal.invariant-loop-step
invariant-loop-step l = IsUndone l._step (stepping l.fn.machine l.fn.answers.items) (stepping l.machine l.answers.items) l.fn.records l.records
