-- What is left of the pass goes on, instruction by instruction, to the place.
use Rattle.std.proofs.Common.{◌+◌, ℕ, List, Option, arith, sym, subst}
use Rattle.burr_code.specs.Instruction.{StandsAt}
use Rattle.burr_code.specs.Meaning.{meaning, NoneStandsAt}
use Rattle.burr_frames.specs.Rules.FramedPlans.{framed_plan}
use Rattle.burr_frames.specs.Rules.States.{AbstractState}
use Rattle.burr_verify.specs.Rules.Fronts.{PassesTo}
use Rattle.burr_verify.specs.Rules.WellFramed.{Enters}
use Rattle.burr_verify.proofs.Stages.{code_read}
use Rattle.burr_verify.proofs.Transfers.{goes_on, has_come, stands_there}
use Rattle.burr_verify.proofs.states.state_before.Goals as goal

pub loop-at-init : goal.loop-at-init
loop-at-init c = λ p here kept at homes rows out passes. (rows, passes)

pub loop-at-preserved : goal.loop-at-preserved
loop-at-preserved c = λ p here kept at homes rows out passes.
    (let code = code_read c.args.procedure.container.now c.args.procedure.number c.code.result.now c.code.ensures.plan p here kept at in
    let left = c.loop-at.invariant p here kept at homes rows out passes in
    let i = c.in_ok-instruction.instruction in
    let stands = subst (λ (bytes : List ℕ). StandsAt bytes c.loop-at.at (meaning i)) code c.in_ok-instruction.ensures.stands.0 in
    let on = goes_on homes (framed_plan p) c.args.procedure.number here c.loop-at.at c.loop-at.state left.0 c.args.pc out i
    (omega (arith, c.loop-at-test.true, c.from.ensures)) stands left.1 in
    let before = c.enter.ensures p here kept at on.state on.enters in
    let next = c.go_over.ensures p here kept at homes on.state on.verdict on.next before on.rule on.falls in
    let size = c.in_ok-instruction.ensures.stands.1 in (
      on.rows,
      subst (λ (o : Option AbstractState). PassesTo homes (framed_plan p) c.args.procedure.number here (c.loop-at.at + c.in_ok-instruction.size) o on.rows c.args.pc out) (sym next)
          (subst (λ (n : ℕ). PassesTo homes (framed_plan p) c.args.procedure.number here (c.loop-at.at + n) on.next on.rows c.args.pc out) (sym size) on.passes),
    ))

pub returns-in_err-instruction : goal.returns-in_err-instruction
returns-in_err-instruction c = λ p here kept at homes s comes.
    (let code = code_read c.args.procedure.container.now c.args.procedure.number c.code.result.now c.code.ensures.plan p here kept at in
    let left = c.loop-at.invariant p here kept at homes comes.0 comes.1 comes.2 in
    absurd (stands_there homes (framed_plan p) c.args.procedure.number here c.loop-at.at c.loop-at.state left.0 c.args.pc comes.1
    (omega (arith, c.loop-at-test.true, c.from.ensures)) left.1 (subst (λ (bytes : List ℕ). NoneStandsAt bytes c.loop-at.at) code c.in_err-instruction.ensures.stands)))

pub returns : goal.returns
returns c = λ p here kept at homes s comes.
    (let left = c.loop-at.invariant p here kept at homes comes.0 comes.1 comes.2 in
    let come = has_come homes (framed_plan p) c.args.procedure.number here c.loop-at.at c.loop-at.state left.0 c.args.pc comes.1
    (omega (arith, c.loop-at-test.false, c.from.ensures)) left.1 in
    c.enter-2.ensures p here kept at s
    (subst (λ (n : ℕ). Enters here n c.loop-at.state s) (sym c.from-2.ensures)
    (subst (λ (o : Option AbstractState). Enters here c.args.pc o s) (sym come.1) comes.3)))
