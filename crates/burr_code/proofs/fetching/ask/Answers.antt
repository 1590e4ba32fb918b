-- Without a second number there is no `ask`.
use Rattle.burr_code.proofs.Operands.{no_ask}
use Rattle.burr_code.proofs.fetching.ask.Goals as goal

pub returns-in_err-high : goal.returns-in_err-high
returns-in_err-high c = rw c.from_residual-in_err-high.ensures (no_ask _ _ _ _ c.in_ok-low.ensures.1 c.in_err-high.ensures)
