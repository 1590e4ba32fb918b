use Rattle.std.proofs.Common.{◌≡◌, ◌++◌, take, drop}
use Rattle.burr_from_sheet.specs.SheetPlans.{first_lines}
use Rattle.burr_from_sheet.proofs.lines.first_lines.Given as goal

-- what was passed, and the lines that are still to come
abbrev pub invariant-loop-place : goal.invariant-loop-place
invariant-loop-place l = take l.place l.text ++ first_lines l.left (drop l.place l.text) ≡ first_lines l.count l.text
