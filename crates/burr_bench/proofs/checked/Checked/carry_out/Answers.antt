use Rattle.std.proofs.Common.{inr, refl}
use Rattle.burr_bench.proofs.checked.Checked.carry_out.Goals as goal

pub returns-in_default-clause-next : goal.returns-in_default-clause-next
returns-in_default-clause-next g c =
    rw (← c.self.view_is) (inr ((λ here i at. c.in_default.ensures i (here, at)), refl))
