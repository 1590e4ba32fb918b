use Rattle.burr_assembly.specs.Rules.Homes.{names_of}
use Rattle.burr_sheet.proofs.GroupNames.{ReadsNames}
use Rattle.burr_sheet.proofs.motion_lines.group_named.Given as goal

-- the pieces so far are read
abbrev pub invariant-loop-piece : goal.invariant-loop-piece
invariant-loop-piece l = ReadsNames (names_of l.assembly) l.names l.piece l.group l.left
