use Rattle.std.proofs.Common.{inl}
use Rattle.std.proofs.lemmas.Result.{err_from_is_err_and}
use Rattle.burr_asm.proofs.Assembled.{fault_told, stands}
use Rattle.burr_asm.proofs.text.assemble.Goals as goal

pub returns-in_err-plan : goal.returns-in_err-plan
returns-in_err-plan c =
    let p = err_from_is_err_and c.from_residual.result c.from_residual.ensures.1 in
    rw (p.1, p.2) (fault_told c.args.text.now _ c.in_err-plan.ensures)

pub write-requires : goal.write-requires
write-requires c =
    let read = c.in_ok-plan.ensures in
    c.a_text_stands_for_a_plan_within_the_format.ensures c.args.text.now c.in_ok-plan.plan
    (stands c.a_judged_text_is_of_its_source.ensures c.args.text.now c.in_ok-plan.plan read.0 read.1 read.2)

pub returns-in_err-write : goal.returns-in_err-write
returns-in_err-write c =
    let p = err_from_is_err_and c.from_residual-in_err-write.result c.from_residual-in_err-write.ensures.1 in
    rw p.1 (inl p.2)

pub returns : goal.returns
returns c =
    let read = c.in_ok-plan.ensures in (
      c.in_ok-plan.plan,
      stands c.a_judged_text_is_of_its_source.ensures c.args.text.now c.in_ok-plan.plan read.0 read.1 read.2,
      c.in_ok-write.ensures,
    )
