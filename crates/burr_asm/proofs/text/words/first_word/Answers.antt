use Rattle.burr_asm.proofs.Words.{first_cut, first_uncut}
use Rattle.burr_asm.proofs.text.words.first_word.Goals as goal

pub returns-in-Some : goal.returns-in-Some
returns-in-Some c = first_cut _ _ _ c.in-Some.ensures

pub returns-in-None : goal.returns-in-None
returns-in-None c = first_uncut _ c.in-None.ensures
