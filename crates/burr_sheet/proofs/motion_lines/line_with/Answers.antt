use Rattle.burr_sheet.proofs.LineTexts.{no_moves}
use Rattle.burr_sheet.proofs.motion_lines.line_with.Goals as goal

pub returns-then-not-out : goal.returns-then-not-out
returns-then-not-out c = λ l line words.
    no_moves _ _ c.in_ok-units.out l c.in_ok-units.ensures.1 c.in_ok-units.ensures.0 c.if-units-eq0.true c.if-not-out.true words.ending line.units line.moves
