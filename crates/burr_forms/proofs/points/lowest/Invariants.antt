-- The lowest numbers of the ranges so far are put in place.
use Rattle.std.proofs.Common.{◌≡◌}
use Rattle.std.specs.Prelude.{ℤ}
use Rattle.burr_forms.proofs.Placing.{placed}
use Rattle.burr_forms.proofs.points.lowest.Given as goal

abbrev pub invariant-loop-symbol : goal.invariant-loop-symbol
invariant-loop-symbol l = l.point ≡ placed (λ (range : ℤ × ℤ). range.0) l.symbol l.fn.ranges l.initial.point
