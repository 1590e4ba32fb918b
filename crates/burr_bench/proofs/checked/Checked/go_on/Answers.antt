use Rattle.std.proofs.Common.{refl}
use Rattle.burr_bench.proofs.Stepping.Sound.{sound_still}
use Rattle.burr_bench.proofs.checked.Checked.go_on.Goals as goal

pub invariant_of-self : goal.invariant_of-self
invariant_of-self g c = sound_still _ _ _ c.self.invariant refl c.trap.ensures.state
