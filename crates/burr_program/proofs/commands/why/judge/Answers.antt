use Rattle.std.proofs.Common.{[], refl, inr}
use Rattle.burr_judge.specs.declared.status.Status.TheVariants.{Done}
use Rattle.burr_judge.specs.declared.tasks.Task.TheVariants.{Check}
use Rattle.burr_judge.proofs.Common.Results.{check_is, put_ends, put_fails}
use Rattle.burr_program.proofs.Noted.{container_noted, noted_refused, plan_text_noted, said_alone, task_noted}
use Rattle.burr_program.proofs.commands.why.judge.Goals as goal

pub returns-in_err-bytes : goal.returns-in_err-bytes
returns-in_err-bytes g c = plan_text_noted Check [] c.in_ok-tables.tables.assembly c.bytes.result.now c.in_ok-tables.ensures.ok c.bytes.ensures c.in_err-bytes.ensures.err c.from_residual-in_err-bytes.ensures.1

pub returns-in_err-container : goal.returns-in_err-container
returns-in_err-container g c =
    container_noted Check [] c.in_ok-tables.tables.assembly c.bytes.result.now c.deref.result.now _ c.in_ok-tables.ensures.ok c.bytes.ensures (rw c.deref.ensures.value c.in_ok-bytes.ensures.ok) c.in_err-container.ensures
    c.from_residual-in_err-container.ensures.1

pub returns-in_err-accepted : goal.returns-in_err-accepted
returns-in_err-accepted g c =
    task_noted Check [] c.in_ok-tables.tables.assembly c.bytes.result.now c.deref.result.now c.in_ok-container.container c.in_ok-tables.ensures.ok c.bytes.ensures (rw c.deref.ensures.value c.in_ok-bytes.ensures.ok) c.in_ok-container.ensures
    (noted_refused _ (λ line is. inr (is, refl)) c.in_err-accepted.ensures.err c.from_residual-in_err-accepted.ensures.1)

pub returns-in_err-put_accepted : goal.returns-in_err-put_accepted
returns-in_err-put_accepted g c =
    task_noted Check [] c.in_ok-tables.tables.assembly c.bytes.result.now c.deref.result.now c.in_ok-container.container c.in_ok-tables.ensures.ok c.bytes.ensures (rw c.deref.ensures.value c.in_ok-bytes.ensures.ok) c.in_ok-container.ensures
    (said_alone (put_fails Done (check_is c.in_ok-accepted.ensures.ok c.in_ok-accepted.ensures.accepted c.in_ok-accepted.ensures.passed c.cost.ensures c.header.ensures.header)
    c.in_err-put_accepted.ensures c.from_residual-in_err-put_accepted.ensures.1))

pub returns : goal.returns
returns g c =
    task_noted Check [] c.in_ok-tables.tables.assembly c.bytes.result.now c.deref.result.now c.in_ok-container.container c.in_ok-tables.ensures.ok c.bytes.ensures (rw c.deref.ensures.value c.in_ok-bytes.ensures.ok) c.in_ok-container.ensures
    (said_alone (put_ends (check_is c.in_ok-accepted.ensures.ok c.in_ok-accepted.ensures.accepted c.in_ok-accepted.ensures.passed c.cost.ensures c.header.ensures.header)
    c.in_ok-put_accepted.ensures))
