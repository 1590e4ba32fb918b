use Rattle.std.proofs.Common.{◌≤◌}
use Rattle.burr_from_sheet.proofs.draft.draft_of.Given as goal

-- there were no more lines than motions
abbrev pub invariant-loop-place : goal.invariant-loop-place
invariant-loop-place l = l.line ≤ l.place
