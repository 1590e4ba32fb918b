-- The first of the multiples are added.
use Rattle.std.proofs.Common.{◌≡◌}
use Rattle.burr_forms.proofs.Multiples.{added}
use Rattle.burr_forms.proofs.form.add_multiples.Given as goal

abbrev pub invariant-loop-symbol : goal.invariant-loop-symbol
invariant-loop-symbol l = l.numbers ≡ added l.fn.factor l.symbol l.fn.numbers l.others
