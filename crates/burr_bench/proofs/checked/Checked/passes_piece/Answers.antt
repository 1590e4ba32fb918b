use Rattle.std.proofs.Common.{sym, subst, IsTrue, ◌↔◌}
use Rattle.burr_voxels.specs.declared.cell.Cell.{Cell}
use Rattle.burr_voxels.specs.Near.{IsWithin}
use Rattle.burr_assembly.specs.Rules.Homes.{homes_of, home_at}
use Rattle.burr_blocking.specs.Rules.Pairs.{Clears}
use Rattle.burr_text.proofs.Common.Tests.{yes_iff}
use Rattle.burr_state.specs.Views.Benches.{Benched}
use Rattle.burr_code.proofs.Common.Near.{near_difference}
use Rattle.burr_bench.proofs.Stepping.Ways.{passes_absent, passes_present}
use Rattle.burr_bench.proofs.checked.Checked.passes_piece.Goals as goal

pub clears-requires-clause-near : goal.clears-requires-clause-near
clears-requires-clause-near g c = subst (IsWithin 512) (sym c.sub.ensures) (near_difference c.args.from c.in-Some.there c.requires.near c.in-Some.ensures.near)

pub returns-in-None : goal.returns-in-None
returns-in-None g c = yes_iff (passes_absent c.args.query (homes_of c.args.self.now.assembly) c.args.self.now.state.places c.args.self.now.state.tray c.args.piece c.args.from c.args.other c.in-None.ensures.offset)

pub returns-in-Some : goal.returns-in-Some
returns-in-Some g c =
    let asked =
    subst (λ (b : Benched). IsTrue c.clears.result ↔ Clears c.args.query (home_at (homes_of b.assembly) c.args.piece) (home_at (homes_of b.assembly) c.args.other) c.sub.result) c.self.view_is c.clears.ensures in
    let at_difference =
    subst (λ (d : Cell). IsTrue c.clears.result ↔ Clears c.args.query (home_at (homes_of c.args.self.now.assembly) c.args.piece) (home_at (homes_of c.args.self.now.assembly) c.args.other) d) c.sub.ensures asked in
    passes_present c.clears.result c.args.query (homes_of c.args.self.now.assembly) c.args.self.now.state.places c.args.self.now.state.tray c.args.piece c.args.from c.args.other c.in-Some.there c.in-Some.ensures.offset at_difference
