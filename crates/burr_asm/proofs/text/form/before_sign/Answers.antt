use Rattle.burr_asm.proofs.FormWords.{no_first_sign}
use Rattle.burr_asm.proofs.text.form.before_sign.Goals as goal

pub returns-in-None-clause-value : goal.returns-in-None-clause-value
returns-in-None-clause-value c = no_first_sign _ c.in-None.ensures
