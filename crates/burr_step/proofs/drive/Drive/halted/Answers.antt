use Rattle.std.proofs.Common.{None, sym, subst, inl, inr}
use Rattle.burr_state.specs.Views.Benches.{setup_of}
use Rattle.burr_step.specs.Rules.Stepper.{IsHalted}
use Rattle.burr_step.specs.Views.Driving.{Driving, driving, IsAhead}
use Rattle.burr_step.proofs.Driving.{driving_safely, drive_rests}
use Rattle.burr_step.proofs.NextSteps.{ended_there}
use Rattle.burr_step.proofs.drive.Drive.halted.Goals as goal

pub unreachable-requires : goal.unreachable-requires
unreachable-requires c =
    let d = driving c.self.inside.machine c.self.inside.moves c.self.inside.answers in
    let given = c.a_fitting_plan_is_from_a_container.ensures in
    let still = subst (λ (e : Driving). IsAhead (setup_of e.bench) e.bench.state None) (sym c.self.view_is) c.requires in
    let on = subst (λ (e : Driving). ¬ IsHalted (setup_of e.bench) e.bench.state) (sym c.self.view_is) c.in-None.ensures in
    absurd (on (inl (ended_there given d.bench (driving_safely given d c.self.invariant) (drive_rests d c.self.invariant) still
    (λ low high asks. on (inr (low, high, asks))))))
