use Rattle.burr_container.proofs.Restored.{IsFilled}
use Rattle.burr_container.proofs.restoring.coefs.Given as goal

-- the slots so far have their coefficients
abbrev pub invariant-loop-slot : goal.invariant-loop-slot
invariant-loop-slot l = IsFilled l.live l.bytes l.slot l.coefs l.rest
