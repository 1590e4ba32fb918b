use Rattle.std.proofs.Common.{◌<◌, arith, length, rules}
use Rattle.burr_assembly.specs.Rules.Homes.{homes_of}
use Rattle.burr_program.proofs.CellLines.{lines_next}
use Rattle.burr_program.proofs.commands.cells.cells_text.Goals as goal

pub loop-piece-preserved : goal.loop-piece-preserved
loop-piece-preserved c =
    let within : c.loop-piece.piece < length c.args.assembly.now.pieces = search rules in
    lines_next c.args.assembly.now.pieces (homes_of c.args.assembly.now) c.loop-piece.piece _ _ _ _ _ within (omega arith) c.piece_name.ensures c.cells.ensures.home (c.in_ok-add_cells.ensures) c.loop-piece.invariant
