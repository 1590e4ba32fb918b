-- The procedures so far are read.
use Rattle.std.proofs.Common.{◌-◌}
use Rattle.std.specs.Prelude.{false}
use Rattle.burr_container.specs.Rules.Faults.{procedure}
use Rattle.burr_container.specs.Views.InPlace.{IsProcedure}
use Rattle.burr_container.proofs.KeptWalk.{IsKeptWalk}
use Rattle.burr_container.proofs.container.read_procedures.Given as goal

abbrev pub invariant-loop : goal.invariant-loop
invariant-loop l =
    IsKeptWalk (procedure l.layout.version l.layout.pieces false) (IsProcedure l.layout.pieces) (l.count - 1) l.initial.cursor
    l.initial.procedures.items l.counter l.procedures.items l.cursor
