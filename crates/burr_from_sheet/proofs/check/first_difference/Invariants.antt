use Rattle.std.proofs.Common.{◌+◌, ◌≤◌}
use Rattle.burr_from_sheet.proofs.check.first_difference.Given as goal

-- there were no more ends of lines than bytes
abbrev pub invariant-loop-place : goal.invariant-loop-place
invariant-loop-place l = l.line ≤ l.place + 1
