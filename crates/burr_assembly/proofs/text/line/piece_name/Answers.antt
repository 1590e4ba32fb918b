use Rattle.burr_assembly.proofs.PieceNames.{names_in-piece, names_in-other, names_in-none, found_here, found_after}
use Rattle.burr_assembly.proofs.text.line.piece_name.Goals as goal

pub returns-then-left-eq0 : goal.returns-then-left-eq0
returns-then-left-eq0 c = found_here _ _ _ _ _ c.loop-line.invariant (names_in-piece _ _ _ _ c.in-Some.ensures c.in-Some-parse.ensures) c.if-left-eq0.true

pub loop-line-preserved-else-left-eq0 : goal.loop-line-preserved-else-left-eq0
loop-line-preserved-else-left-eq0 c = found_after _ _ _ _ _ c.loop-line.invariant (names_in-piece _ _ _ _ c.in-Some.ensures c.in-Some-parse.ensures) c.if-left-eq0.false

pub loop-line-preserved : goal.loop-line-preserved
loop-line-preserved c = rw (names_in-other _ _ _ c.in-Some.ensures c.in_default-parse.ensures) at c.loop-line.invariant

pub returns : goal.returns
returns c = rw (names_in-none c.loop-line.rest.now c.in_default.ensures) at c.loop-line.invariant
