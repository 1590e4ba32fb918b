-- The pass that comes to the place goes over the instruction that stands there.
use Rattle.std.proofs.Common.{ℕ, List, subst}
use Rattle.burr_code.specs.Instruction.{Instruction, StandsAt}
use Rattle.burr_code.specs.Meaning.{meaning, NoneStandsAt}
use Rattle.burr_code.proofs.Common.Reading.{one_stands_at}
use Rattle.burr_frames.specs.Rules.FramedPlans.{framed_plan}
use Rattle.burr_frames.specs.Rules.Transfer.{Transfer}
use Rattle.burr_verify.proofs.Stages.{code_read}
use Rattle.burr_verify.proofs.states.state_after.Goals as goal

pub returns-in_err-instruction : goal.returns-in_err-instruction
returns-in_err-instruction c = λ p here kept at homes out goes.
    (let code = code_read c.args.procedure.container.now c.args.procedure.number c.code.result.now c.code.ensures.plan p here kept at in
    let none = subst (λ (bytes : List ℕ). NoneStandsAt bytes c.from.result) code c.in_err-instruction.ensures.stands in
    absurd (subst (λ (n : ℕ). NoneStandsAt here.code n) c.from.ensures none goes.1 goes.4))

pub returns : goal.returns
returns c = λ p here kept at homes out goes.
    (let code = code_read c.args.procedure.container.now c.args.procedure.number c.code.result.now c.code.ensures.plan p here kept at in
    let i = meaning c.in_ok-instruction.instruction in
    let read = subst (λ (bytes : List ℕ). StandsAt bytes c.from.result i) code c.in_ok-instruction.ensures.stands.0 in
    let stands = subst (λ (n : ℕ). StandsAt here.code n i) c.from.ensures read in
    let same = one_stands_at here.code c.args.pc goes.1 i goes.4 stands in
    let rule = subst (λ (j : Instruction). Transfer homes (framed_plan p) c.args.procedure.number here goes.0 j goes.2) same goes.5 in
    c.go_over.ensures p here kept at homes goes.0 goes.2 out (c.state_before-state.ensures p here kept at homes goes.0 goes.3) rule goes.6)
