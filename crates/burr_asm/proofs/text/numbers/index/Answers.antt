use Rattle.burr_asm.proofs.Numbers.{below_read}
use Rattle.burr_asm.proofs.text.numbers.index.Goals as goal

pub returns : goal.returns
returns c = rw c.ok.ensures.value (below_read 64 _ _ _ c.as_str.ensures.text c.as_str.ensures.number c.parse.ensures.value.0)
