-- The next coefficient is written, if its slot is live.
use Rattle.std.proofs.Common.{◌≡◌, get_or, arith, length, [], rules}
use Rattle.std.specs.Prelude.{pos, FitsSigned}
use Rattle.std.specs.Int.{w16}
use Rattle.std.proofs.lemmas.Int.{to_z-of_z}
use Rattle.burr_container.proofs.Written.{next_coef, one_more}
use Rattle.burr_container.proofs.writing.add_coefs.Goals as goal

pub loop-v-preserved : goal.loop-v-preserved
loop-v-preserved c =
    let live = c.args.live.now in
    let coefs = c.args.coefs.now in
    let v = c.loop-v.v in
    let long : length live ≡ 8 = c.told-live in
    let many : length coefs ≡ 8 = c.told-coefs in
    let fits : FitsSigned w16 (get_or coefs v (pos 0)) = search rules in
    rw (c.in_ok-add_coef.ensures, to_z-of_z w16 (get_or coefs v (pos 0)) fits)
    (one_more [] c.loop-v.bytes.items _ _ _ _ c.loop-v.invariant (next_coef v live coefs (omega arith) (omega arith)))
