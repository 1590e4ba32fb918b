use Rattle.std.proofs.Common.{rules, subst}
use Rattle.std.specs.Prelude.{◌≡◌, ℤ, Some, slice_get}
use Rattle.std.specs.Int.{w32}
use Rattle.std.proofs.lemmas.Int.{to_z-of_z}
use Rattle.burr_code.specs.declared.instr.Instr.{Instr}
use Rattle.burr_code.specs.Instruction.{Ask, Pick, StandsAt}
use Rattle.burr_code.specs.Meaning.{meaning}
use Rattle.burr_state.specs.Rules.Bench.{running}
use Rattle.burr_state.specs.Views.Effects.{TakesNumber, TakesLabel}
use Rattle.burr_state.proofs.Common.Stepping.Calls.{fits_within}
use Rattle.burr_state.proofs.Common.Stepping.Steps.{is_at}
use Rattle.burr_state.proofs.Common.Stepping.Questions.{number_answered, label_answered}
use Rattle.burr_state.proofs.bench.Bench.take.Goals as goal

pub invariant_of-self : goal.invariant_of-self
invariant_of-self c = fits_within c.self.inside.program.procedures _ _ c.self.invariant c.take_number.ensures.stays.within

pub invariant_of-self-in-Pick : goal.invariant_of-self-in-Pick
invariant_of-self-in-Pick c = fits_within c.self.inside.program.procedures _ _ c.self.invariant c.take_label.ensures.stays.within

pub returns-in-Ask-clause-answered : goal.returns-in-Ask-clause-answered
returns-in-Ask-clause-answered c homes =
    let old = c.self.inside in
    let setup = running homes old.program in
    let here = c.unwrap-procedure.result.now in
    let found : slice_get old.program.procedures c.procedure.result ≡ Some here = search rules in
    let i = Ask c.in-Ask.low c.in-Ask.high in
    let stands : StandsAt c.code.result.now c.pc.result i = subst (λ (x : Instr). StandsAt c.code.result.now c.pc.result (meaning x)) c.in-Ask.is c.in-Some.ensures.stands.0 in
    let at = is_at setup old.state here i _ _ _ c.procedure.ensures c.pc.ensures.pc found c.code.ensures.code stands in
    let taken : TakesNumber old.state c.in-Ask.low c.in-Ask.high c.args.answer c.take_number.result c.take_number.new.self = search rules in
    rw (← c.self.view_is) (number_answered setup here old.state c.take_number.new.self c.in-Ask.low c.in-Ask.high c.args.answer c.take_number.result at taken)

pub returns-in-Pick-clause-answered : goal.returns-in-Pick-clause-answered
returns-in-Pick-clause-answered c homes =
    let old = c.self.inside in
    let setup = running homes old.program in
    let here = c.unwrap-procedure.result.now in
    let found : slice_get old.program.procedures c.procedure.result ≡ Some here = search rules in
    let i = Pick c.in-Pick.labels in
    let stands : StandsAt c.code.result.now c.pc.result i = subst (λ (x : Instr). StandsAt c.code.result.now c.pc.result (meaning x)) c.in-Pick.is c.in-Some.ensures.stands.0 in
    let at = is_at setup old.state here i _ _ _ c.procedure.ensures c.pc.ensures.pc found c.code.ensures.code stands in
    let taken : TakesLabel here old.state c.in-Pick.labels c.args.answer c.take_label.result c.take_label.new.self =
    subst (λ (n : ℤ). TakesLabel here old.state c.in-Pick.labels n c.take_label.result c.take_label.new.self) (to_z-of_z w32 c.args.answer c.ranges.answer) c.take_label.ensures.taken in
    rw (← c.self.view_is) (label_answered setup here old.state c.take_label.new.self c.in-Pick.labels c.args.answer c.take_label.result at taken)
