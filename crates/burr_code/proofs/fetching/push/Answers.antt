-- The number is the one that was read.
use Rattle.std.proofs.Common.{rules, ap, FitsSigned, ◌∷◌, List, ℕ}
use Rattle.std.specs.Int.{w16}
use Rattle.std.proofs.lemmas.Int.{to_z-of_z}
use Rattle.burr_code.proofs.fetching.push.Goals as goal

pub returns : goal.returns
returns c =
    let is = c.in_ok-number.ensures in
    let fits : FitsSigned w16 c.in_ok-number.number = search rules in
    simp to_z-of_z (is.0, (c.in_ok-number._rest.now, ap (λ (all : List ℕ). 0x01 ∷ all) is.1))
