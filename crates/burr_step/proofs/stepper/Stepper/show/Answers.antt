use Rattle.std.proofs.Common.{subst}
use Rattle.burr_assembly.specs.Rules.Homes.{names_of}
use Rattle.burr_io.specs.Sink.{Puts}
use Rattle.burr_step.specs.Rules.StepTexts.{show_text}
use Rattle.burr_step.specs.Views.Stepping.{Stepping, stepping}
use Rattle.burr_step.proofs.EightSlots.{has_eight}
use Rattle.burr_step.proofs.stepper.Stepper.show.Goals as goal

pub put_state-requires : goal.put_state-requires
put_state-requires g c = has_eight (stepping c.self.inside.machine c.self.inside.answers.items) c.self.inside.records c.self.invariant

pub returns : goal.returns
returns g c =
    subst (λ (s : Stepping). Puts g.W.Sink c.args.sink.now c.put_state.new.sink (show_text (names_of s.bench.assembly) s.bench.state) c.put_state.result) c.self.view_is
    c.put_state.ensures
