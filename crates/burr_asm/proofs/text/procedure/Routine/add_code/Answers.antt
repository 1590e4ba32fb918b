use Rattle.std.proofs.Common.{refl, inr}
use Rattle.burr_plantext.specs.Rules.Checks.{P3}
use Rattle.burr_asm.proofs.text.procedure.Routine.add_code.Goals as goal

pub returns-in_default : goal.returns-in_default
returns-in_default c = rw c.in_default.ensures.value (inr (P3, refl, refl))
