use Rattle.burr_explain.specs.Asked.{lower_case}
use Rattle.burr_explain.proofs.Keys.{said_after}
use Rattle.burr_explain.proofs.explanation.said_of.Goals as goal

pub returns-in_err-after_digits : goal.returns-in_err-after_digits
returns-in_err-after_digits c = rw c.from_residual.ensures (λ said (rest, is, more). c.in_err-after_digits.ensures rest is)

pub returns : goal.returns
returns c = said_after (lower_case c.args.line.now) (lower_case c.in_ok-after_digits.field-0.now) c.after_digits-2.result c.in_ok-after_digits.ensures c.after_digits-2.ensures
