use Rattle.std.proofs.Common.{subst}
use Rattle.burr_assembly.specs.Rules.Homes.{homes_of}
use Rattle.burr_state.specs.Rules.Step.{IsQuestionOf}
use Rattle.burr_state.specs.Views.Benches.{Benched, setup_of}
use Rattle.burr_bench.proofs.machine.Machine.question.Goals as goal

pub returns : goal.returns
returns c =
    subst (λ (b : Benched). IsQuestionOf (setup_of b) b.state c.question.result) c.self.view_is
    (c.question.ensures (homes_of c.self.inside.assembly.now))
