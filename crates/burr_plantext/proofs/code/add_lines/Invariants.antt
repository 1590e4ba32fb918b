-- What is written, whatever lines of code are next, is the whole of the code.
use Rattle.std.proofs.Common.{◌≡◌, ◌+◌, length}
use Rattle.burr_plantext.proofs.CodeSteps.{IsCodeWritten}
use Rattle.burr_plantext.proofs.code.add_lines.Given as goal

abbrev pub invariant-loop-rest : goal.invariant-loop-rest
invariant-loop-rest l =
    IsCodeWritten l.reach.labels l.reach.procedures l.reach.placed l.start l.block l.fn.text.items
    l.at l.rest l.text.items
    × (l.at + length l.rest ≡ l.start + length l.block)

abbrev pub decreases-loop-rest : goal.decreases-loop-rest
decreases-loop-rest l = length l.rest
