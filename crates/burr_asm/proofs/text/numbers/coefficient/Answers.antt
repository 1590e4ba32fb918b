use Rattle.std.specs.Int.{w16}
use Rattle.burr_asm.proofs.Numbers.{signed_read}
use Rattle.burr_asm.proofs.text.numbers.coefficient.Goals as goal

pub returns : goal.returns
returns c = rw c.ok.ensures.value (signed_read w16 _ _ _ c.as_str.ensures.text c.as_str.ensures.number c.parse.ensures.value.0)
