use Rattle.burr_asm.proofs.LastProcedure.{ends_before}
use Rattle.burr_asm.proofs.text.front.Front.finish.Goals as goal

pub returns-in_default : goal.returns-in_default
returns-in_default c = λ number place b is h. ends_before number place _ _ b c.in_default.not-InProcedure is h
