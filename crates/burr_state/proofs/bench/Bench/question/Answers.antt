use Rattle.std.proofs.Common.{◌≡◌, rules, subst, inl, Some, slice_get}
use Rattle.burr_code.specs.declared.instr.Instr.{Instr}
use Rattle.burr_code.specs.Instruction.{Pick, StandsAt}
use Rattle.burr_code.specs.Meaning.{meaning}
use Rattle.burr_state.specs.declared.effect.Mode.TheVariants.{Running}
use Rattle.burr_state.specs.Rules.Bench.{running}
use Rattle.burr_state.proofs.Common.Stepping.Steps.{is_at}
use Rattle.burr_state.proofs.Common.Stepping.Questions.{waits_for}
use Rattle.burr_state.proofs.bench.Bench.question.Goals as goal

pub returns-in-Pick : goal.returns-in-Pick
returns-in-Pick c homes =
    let old = c.self.inside in
    let setup = running homes old.program in
    let i = Pick c.in-Pick.labels in
    let here = c.unwrap-procedure.result.now in
    let found : slice_get old.program.procedures c.procedure.result ≡ Some here = search rules in
    let runs : old.state.mode ≡ Running = search rules in
    let stands : StandsAt c.code.result.now c.pc.result i = subst (λ (x : Instr). StandsAt c.code.result.now c.pc.result (meaning x)) c.in-Pick.is (c.in_ok-instruction.ensures.stands).0 in
    let at = is_at setup old.state here i _ _ _ c.procedure.ensures c.pc.ensures.pc found c.code.ensures.code stands in
    rw (c.question_of-in-Pick.ensures, ← c.self.view_is) (waits_for setup old.state old.state c.pick.result runs (inl (here, i, at, c.pick.ensures.next)))
