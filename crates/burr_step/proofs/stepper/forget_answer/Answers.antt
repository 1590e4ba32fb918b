use Rattle.std.proofs.Common.{inr, refl}
use Rattle.burr_state.specs.Views.Benches.{setup_of}
use Rattle.burr_step.proofs.Returning.{not_asking}
use Rattle.burr_step.proofs.stepper.forget_answer.Goals as goal

pub returns-in-None : goal.returns-in-None
returns-in-None c = inr (not_asking (setup_of c.args.machine.now) c.args.machine.now.state c.in-None.ensures, refl)
