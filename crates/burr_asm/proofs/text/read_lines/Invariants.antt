use Rattle.std.proofs.Common.{◌≤◌, ◌+◌, length}
use Rattle.burr_asm.proofs.ReadLines.{IsReading}
use Rattle.burr_asm.proofs.text.read_lines.Given as goal

-- each line has its end, and the lines so far have led here
abbrev pub invariant-loop-rest : goal.invariant-loop-rest
invariant-loop-rest l =
    (l.line + length l.rest ≤ length l.fn.text + 1)
    × IsReading l.fn.text l.rest l.line l.front

abbrev pub decreases-loop-rest : goal.decreases-loop-rest
decreases-loop-rest l = length l.rest
