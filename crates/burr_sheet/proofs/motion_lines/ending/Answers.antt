use Rattle.std.proofs.Common.{sym, ◌∙◌}
use Rattle.burr_sheet.proofs.LineTexts.{no_number, no_units, told_apart}
use Rattle.burr_sheet.proofs.motion_lines.ending.Goals as goal

pub returns-in_err-count : goal.returns-in_err-count
returns-in_err-count c = rw c.from_residual.ensures (no_number _ c.in_default.ensures c.in_err-count.ensures)

pub returns-then-ne : goal.returns-then-ne
returns-then-ne c = no_units _ _ _ c.in-Some.ensures (λ n small out number. told_apart _ _ c.ne.result c.ne.ensures c.if-ne.true (out ∙ sym c.as_slice.ensures))

pub returns-in_err-count-2 : goal.returns-in_err-count-2
returns-in_err-count-2 c = rw c.from_residual-in_err-count-2.ensures (no_units _ _ _ c.in-Some.ensures (λ n small out number. c.in_err-count-2.ensures n small number))
