use Rattle.std.proofs.Common.{◌≡◌, take}
use Rattle.burr_forms.specs.Views.Bounds.{corner}
use Rattle.burr_forms.proofs.form.corner.Given as goal

abbrev pub invariant-loop-symbol : goal.invariant-loop-symbol
invariant-loop-symbol l = l.point.items ≡ corner l.is_greatest l.coefs (take l.symbol l.ranges)
