-- The arguments of the symbols so far are added.
use Rattle.burr_forms.proofs.Substituting.{IsUnderWay}
use Rattle.burr_forms.proofs.form.Form.substitute.Given as goal

abbrev pub invariant-loop-symbol : goal.invariant-loop-symbol
invariant-loop-symbol l = IsUnderWay l.symbol l.sum l.self l.arguments
