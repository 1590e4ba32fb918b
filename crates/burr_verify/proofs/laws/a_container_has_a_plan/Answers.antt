use Rattle.std.proofs.Common.{arith}
use Rattle.burr_verify.proofs.laws.a_container_has_a_plan.Goals as goal

pub returns-clause-procedures : goal.returns-clause-procedures
returns-clause-procedures c = λ p is. omega (arith, c.proc_count.ensures.some, c.proc_count.ensures.plan p is)
