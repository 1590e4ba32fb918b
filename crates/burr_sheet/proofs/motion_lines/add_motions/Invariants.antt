use Rattle.std.proofs.Common.{◌≡◌, ◌++◌, replicate, false}
use Rattle.burr_sheet.specs.Views.MotionLines.{line_of}
use Rattle.burr_sheet.specs.Rules.SheetText.{motion_on}
use Rattle.burr_sheet.proofs.motion_lines.add_motions.Given as goal

-- `counter` steps of the line are added
abbrev pub invariant-loop : goal.invariant-loop
invariant-loop l = l.motions.items ≡ l.initial.motions.items ++ replicate l.counter (motion_on (line_of l.line) false)
