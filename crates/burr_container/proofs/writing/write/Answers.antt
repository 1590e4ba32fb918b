-- The counts of a plan that fits have room.
use Rattle.std.proofs.Common.{◌≤◌, sym, subst, arith, length}
use Rattle.burr_container.specs.Rules.Plans.{Plan}
use Rattle.burr_container.proofs.Written.{HasRoom, plan_has_room}
use Rattle.burr_container.proofs.writing.write.Goals as goal

pub overflow_cast-len : goal.overflow_cast-len
overflow_cast-len c =
    let room = subst (λ (p : Plan). HasRoom p) (sym c.plan.view_is) (plan_has_room c.args.plan.now c.requires) in
    let short : length c.plan.inside.name.items ≤ 32 = room.name in
    omega (arith, c.len.ensures, short)

pub add_procedures-requires-clause-few : goal.add_procedures-requires-clause-few
add_procedures-requires-clause-few c =
    let room = subst (λ (p : Plan). HasRoom p) (sym c.plan.view_is) (plan_has_room c.args.plan.now c.requires) in
    let few : length c.plan.inside.procs.items ≤ 16 = room.few in
    rw c.deref-2.ensures.value (omega (arith, few))

pub add_procedures-requires-clause-room : goal.add_procedures-requires-clause-room
add_procedures-requires-clause-room c =
    let room = subst (λ (p : Plan). HasRoom p) (sym c.plan.view_is) (plan_has_room c.args.plan.now c.requires) in
    rw c.deref-2.ensures.value room.room
