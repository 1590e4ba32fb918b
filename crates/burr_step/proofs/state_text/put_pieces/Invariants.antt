-- The lines of the pieces that remain are still to be put.
use Rattle.std.proofs.Common.{drop}
use Rattle.burr_assembly.specs.Rules.Homes.{names_of}
use Rattle.burr_io.proofs.Common.Puts.{Remains}
use Rattle.burr_step.specs.Rules.StepTexts.{piece_lines}
use Rattle.burr_step.proofs.state_text.put_pieces.Given as goal

abbrev pub invariant-loop-piece : goal.invariant-loop-piece
invariant-loop-piece g l =
    Remains g.W.Sink l.fn.sink l.sink (piece_lines (names_of l.machine.assembly) l.machine.state.places)
    (piece_lines (drop l.piece (names_of l.machine.assembly)) (drop l.piece l.machine.state.places))
