use Rattle.std.proofs.Common.{take, drop}
use Rattle.burr_from_sheet.proofs.FirstLines.{none_left}
use Rattle.burr_from_sheet.proofs.lines.first_lines.Goals as goal

pub returns-then-left-eq0 : goal.returns-then-left-eq0
returns-then-left-eq0 c =
    none_left (take c.loop-place.place c.args.text.now) (drop c.loop-place.place c.args.text.now) c.loop-place.left _ c.if-left-eq0.true c.loop-place.invariant
