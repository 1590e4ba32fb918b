use Rattle.std.proofs.Common.{subst}
use Rattle.burr_state.specs.Views.Benches.{setup_of}
use Rattle.burr_step.specs.Views.Stepping.{Stepping, stepping, LabelsAreFew}
use Rattle.burr_step.proofs.Labels.{labels_are_few}
use Rattle.burr_step.proofs.UnderWay.{is_safe}
use Rattle.burr_step.proofs.stepper.Stepper.labels_are_few.Goals as goal

pub returns : goal.returns
returns c =
    subst (λ (s : Stepping). LabelsAreFew (setup_of s.bench)) c.self.view_is
    (labels_are_few c.self.inside.machine
    (is_safe c.a_fitting_plan_is_from_a_container.ensures (stepping c.self.inside.machine c.self.inside.answers.items) c.self.inside.records c.self.invariant))
