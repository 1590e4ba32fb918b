-- The constant and a number for each live slot are there.
use Rattle.std.proofs.Common.{ap, length, length-drop, arith, ℕ}
use Rattle.burr_container.proofs.Forms.{size_by_count}
use Rattle.burr_container.proofs.plan.PlanForm.of.Goals as goal

pub read_i32-requires : goal.read_i32-requires
read_i32-requires c = omega (arith, size_by_count c.args.live.now, c.requires)

pub after-requires : goal.after-requires
after-requires c = omega (arith, size_by_count c.args.live.now, c.requires)

pub coefs-requires : goal.coefs-requires
coefs-requires c =
    omega (arith, size_by_count c.args.live.now, c.requires, ap (length {A = ℕ}) c.after.ensures, length-drop 4 c.args.bytes.now)
