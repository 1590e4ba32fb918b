use Rattle.std.proofs.Common.{rules, subst, sym, ◌<◌, length, IfSome, slice_get}
use Rattle.burr_assembly.specs.Rules.Text.{Assembly as AssemblyOf, HasCells}
use Rattle.burr_assembly.specs.Rules.Homes.{HasHome, homes_of}
use Rattle.burr_assembly.proofs.Common.HomeCells.{has_home}
use Rattle.burr_assembly.proofs.Sharing.{cells_at, length-pieces_of}
use Rattle.burr_assembly.proofs.assembly.Assembly.cells.Goals as goal

pub returns-clause-cells : goal.returns-clause-cells
returns-clause-cells c =
    let count = length-pieces_of c.self.inside.pieces.items in
    rw (← c.self.view_is) (cells_at c.self.inside.shapes.items c.self.inside.pieces.items c.args.piece c.index.result.now _ c.self.invariant.1 (search rules) (rw c.from.ensures at c.index.ensures) c.cells.ensures.cells)

pub returns-clause-home : goal.returns-clause-home
returns-clause-home c =
    let inside = subst (λ (a : AssemblyOf). c.args.piece < length a.pieces) (sym c.self.view_is) c.requires in
    let cells =
    subst (λ (a : AssemblyOf). IfSome (slice_get a.pieces c.args.piece) (λ p. HasCells a.shapes p c.cells.result.now)) (sym c.self.view_is) (returns-clause-cells c) in
    subst (λ (a : AssemblyOf). HasHome (homes_of a) c.args.piece c.cells.result.now) c.self.view_is (has_home _ c.args.piece c.cells.result.now c.self.invariant.0 inside cells)
