use Rattle.std.proofs.Common.{◌≡◌, length}
use Rattle.std.specs.Prelude.{take}
use Rattle.burr_state.proofs.program.OwnedProgram.lend.Given as goal

abbrev pub invariant-loop-number : goal.invariant-loop-number
invariant-loop-number l = (length l.procedures.items ≡ l.number) × (l.procedures.items ≡ take l.number l.self.procedures)
