use Rattle.std.proofs.Common.{subst}
use Rattle.std.specs.Prelude.{MatchOption}
use Rattle.burr_assembly.specs.Rules.Homes.{homes_of}
use Rattle.burr_state.specs.Rules.Bench.{HasLabelOf, IsLabelAt}
use Rattle.burr_state.specs.Views.Benches.{Benched, setup_of}
use Rattle.burr_bench.proofs.machine.Machine.label.Goals as goal

pub returns : goal.returns
returns c =
    subst (λ (b : Benched). MatchOption c.label.result (¬ HasLabelOf (setup_of b) c.args.procedure c.args.label) (IsLabelAt (setup_of b) c.args.procedure c.args.label)) c.self.view_is
    (c.label.ensures (homes_of c.self.inside.assembly.now))
