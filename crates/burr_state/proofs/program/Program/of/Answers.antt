use Rattle.std.proofs.Common.{rules, ◌≡◌, ◌<◌, ℕ, List, length, map, ◌∙◌, ap, subst}
use Rattle.burr_state.specs.Rules.Bench.{BenchProcedure}
use Rattle.burr_state.specs.Views.Programs.{bench_procedure, program_of}
use Rattle.burr_state.proofs.Programs.{made_next, made_all, some_at}
use Rattle.burr_state.proofs.program.Program.of.Goals as goal

pub loop-number-preserved : goal.loop-number-preserved
loop-number-preserved c = (
  search rules,
  λ p is.
      let more : c.loop-number.number < length p.procedures = subst (λ n. c.loop-number.number < n) (c.proc_count-number-end.ensures.plan p is) c.loop-number-test.true in
      let q = some_at p.procedures c.loop-number.number more in
      c.push.ensures.items ∙ made_next bench_procedure p.procedures c.loop-number.number q.0 c.loop-number.procedures.items c.of.result q.1 (c.loop-number.invariant.1 p is) (c.of.ensures p q.0 is q.1),
)

pub returns-clause-plan : goal.returns-clause-plan
returns-clause-plan c p is =
    let ended : c.loop-number.number ≡ c.proc_count-number-end.result = search rules in
    let all = ended ∙ c.proc_count-number-end.ensures.plan p is in
    let made = made_all bench_procedure p.procedures c.loop-number.number c.loop-number.procedures.items all (c.loop-number.invariant.1 p is) in
    ap (λ (ps : List BenchProcedure). program_of ps c.header.result.budget) made ∙ ap (λ (n : ℕ). program_of (map bench_procedure p.procedures) n) (c.header.ensures.plan p is).budget
