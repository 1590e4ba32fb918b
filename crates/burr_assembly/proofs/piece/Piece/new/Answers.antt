use Rattle.std.proofs.Common.{rules}
use Rattle.burr_assembly.specs.Views.HomedPieces.{turn_of}
use Rattle.burr_assembly.proofs.HomeLemmas.{AllWithin-home, home_cells-more}
use Rattle.burr_assembly.proofs.piece.Piece.new.Goals as goal

pub loop-cell-preserved : goal.loop-cell-preserved
loop-cell-preserved c = (
  home_cells-more (turn_of c.args.orientation) c.args.position c.cells-cell-items.result.now c.loop-cell.cell-index _ _ _ c.turn.result c.add.result (search rules) c.loop-cell.invariant.0 c.in_ok-push.ensures.items c.add.ensures c.turn.ensures.value,
  AllWithin-home _ _ c.turn.result c.add.result c.args.position c.in_ok-push.ensures.items c.add.ensures (c.turn.ensures.near 15 (c.cells-cell-items.ensures.near _ _ (search rules))) c.requires.position c.loop-cell.invariant.1,
)
