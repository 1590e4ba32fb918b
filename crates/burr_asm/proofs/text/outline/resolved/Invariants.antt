use Rattle.std.proofs.Common.{◌≡◌, ◌++◌}
use Rattle.burr_asm.specs.Views.Routines.{procedures_of, unknown_among}
use Rattle.burr_asm.proofs.text.outline.resolved.Given as goal

abbrev pub invariant-loop-routine : goal.invariant-loop-routine
invariant-loop-routine l =
    (l.procedures.items ++ procedures_of l.names l.routine-iterator.rest.items ≡ procedures_of l.names l.fn.routines.items)
    × (unknown_among l.names l.fn.routines.items ≡ unknown_among l.names l.routine-iterator.rest.items)
