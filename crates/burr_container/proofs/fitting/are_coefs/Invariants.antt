-- The coefficients from here on decide.
use Rattle.std.proofs.Common.{◌≡◌, drop}
use Rattle.burr_container.specs.Rules.Fitting.{are_coefficients}
use Rattle.burr_container.proofs.fitting.are_coefs.Given as goal

abbrev pub invariant-loop-v : goal.invariant-loop-v
invariant-loop-v l =
    are_coefficients (drop l.v l.live) (drop l.v l.coefs) ≡ are_coefficients l.live l.coefs
