use Rattle.std.proofs.Common.{subst}
use Rattle.burr_state.specs.Rules.Step.{IsQuestionOf}
use Rattle.burr_state.specs.Views.Benches.{setup_of}
use Rattle.burr_step.specs.Views.Stepping.{Stepping}
use Rattle.burr_step.proofs.stepper.Stepper.asks.Goals as goal

pub returns : goal.returns
returns c = subst (λ (s : Stepping). IsQuestionOf (setup_of s.bench) s.bench.state c.question.result) c.self.view_is c.question.ensures
