use Rattle.std.specs.Prelude.{◌≡◌, ◌-◌, ◌++◌, map, take, replicate, Some, None}
use Rattle.burr_state.proofs.activation.slots_of.Given as goal

-- the first numbers are in their slots
abbrev pub invariant-loop-slot : goal.invariant-loop-slot
invariant-loop-slot l = l.slots ≡ map Some (take l.slot l.numbers) ++ replicate (8 - l.slot) None
