use Rattle.std.proofs.Common.{◌↔◌, IsTrue, subst}
use Rattle.burr_state.specs.Rules.Bench.{HasLabelOf}
use Rattle.burr_state.specs.Views.Benches.{setup_of}
use Rattle.burr_step.specs.Views.Stepping.{Stepping}
use Rattle.burr_step.proofs.Going.{label_found}
use Rattle.burr_step.proofs.stepper.Stepper.has_label.Goals as goal

pub returns : goal.returns
returns c =
    subst (λ (s : Stepping). IsTrue c.is_some.result ↔ HasLabelOf (setup_of s.bench) c.args.procedure c.args.label) c.self.view_is
    (label_found (setup_of c.self.inside.machine) c.args.procedure c.args.label c.label.result c.is_some.result c.is_some.ensures c.label.ensures)
