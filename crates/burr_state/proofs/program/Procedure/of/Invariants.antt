use Rattle.std.specs.Prelude.{◌≡◌, length, take}
use Rattle.burr_container.specs.Views.Containers.{OfProcedure}
use Rattle.burr_state.specs.Views.Programs.{positions_of}
use Rattle.burr_state.proofs.program.Procedure.of.Given as goal

-- the positions of the labels so far
abbrev pub invariant-loop-label : goal.invariant-loop-label
invariant-loop-label l =
    (length l.labels.items ≡ l.label) × OfProcedure l.container l.number (λ p q. l.labels.items ≡ take l.label (positions_of q.labels))
