use Rattle.std.proofs.Common.{◌≡◌, ◌++◌, take, drop, true}
use Rattle.burr_from_sheet.specs.SheetPlans.{before_levels}
use Rattle.burr_from_sheet.proofs.lines.move_lines.Given as goal

-- what was passed, and the move lines that are still to come
abbrev pub invariant-loop-place : goal.invariant-loop-place
invariant-loop-place l = take l.place l.sheet ++ before_levels l.begins (drop l.place l.sheet) ≡ before_levels true l.sheet
