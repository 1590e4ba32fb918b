use Rattle.std.proofs.Common.{true, false, refl, sym, ap, subst}
use Rattle.burr_text.proofs.Common.Tests.{no_of}
use Rattle.burr_code.specs.declared.instr.Instr.{Instr}
use Rattle.burr_code.specs.Instruction.{Step, Aside}
use Rattle.burr_code.specs.Meaning.{meaning}
use Rattle.burr_state.specs.declared.effect.Motion.{Motion}
use Rattle.burr_state.specs.Rules.Space.{motion_of}
use Rattle.burr_state.specs.Views.Benches.{setup_of}
use Rattle.burr_state.specs.Views.Work.{Work, StandsBefore}
use Rattle.burr_step.specs.Rules.Moves.{MovesNext}
use Rattle.burr_step.proofs.NextSteps.{moves_by, nowhere_moves}
use Rattle.burr_step.proofs.drive.motion_ahead.Goals as goal

pub returns-in_err-instruction : goal.returns-in_err-instruction
returns-in_err-instruction c =
    rw c.from_residual.ensures (λ motion next. nowhere_moves (setup_of c.args.machine.now) c.args.machine.now.state motion
    (λ here i at. rw c.bench.ensures at c.in_err-instruction.ensures i (here, at)) next)

pub returns-in-Step : goal.returns-in-Step
returns-in-Step c =
    let b = c.args.machine.now in
    let stands = subst (λ (i : Instr). StandsBefore c.bench.result.now (meaning i)) c.in-Step.is c.in_ok-instruction.ensures.stands in
    let here = subst (λ (w : Work). StandsBefore w (Step c.in-Step.direction)) c.bench.ensures stands in (
      subst (λ (m : Motion). MovesNext (setup_of b) b.state m) (sym c.motion.ensures)
          (moves_by c.a_fitting_plan_is_from_a_container.ensures b c.requires here.0 (Step c.in-Step.direction)
          (motion_of b.state.grip b.state.tray c.in-Step.direction false) (no_of c.if-ended.ensures) here.1 refl),
      ap (λ (m : Motion). m.out) c.motion.ensures,
    )

pub returns-in-Aside : goal.returns-in-Aside
returns-in-Aside c =
    let b = c.args.machine.now in
    let stands = subst (λ (i : Instr). StandsBefore c.bench.result.now (meaning i)) c.in-Aside.is c.in_ok-instruction.ensures.stands in
    let here = subst (λ (w : Work). StandsBefore w (Aside c.in-Aside.direction c.in-Aside.tray)) c.bench.ensures stands in (
      subst (λ (m : Motion). MovesNext (setup_of b) b.state m) (sym c.motion-in-Aside.ensures)
          (moves_by c.a_fitting_plan_is_from_a_container.ensures b c.requires here.0 (Aside c.in-Aside.direction c.in-Aside.tray)
          (motion_of b.state.grip b.state.tray c.in-Aside.direction true) (no_of c.if-ended.ensures) here.1 refl),
      ap (λ (m : Motion). m.out) c.motion-in-Aside.ensures,
      (here.0, c.in-Aside.direction, here.1),
    )
