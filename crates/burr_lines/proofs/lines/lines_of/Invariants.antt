use Rattle.std.proofs.Common.{◌≡◌, ◌++◌, ◌+◌, length, map}
use Rattle.std.specs.List.{enumerate_from}
use Rattle.burr_lines.specs.TextLines.{text_lines, told}
use Rattle.burr_lines.proofs.lines.lines_of.Given as goal

-- the lines so far and those of the rest
abbrev pub invariant-loop-bytes : goal.invariant-loop-bytes
invariant-loop-bytes l = record {
  counted : l.number ≡ length l.lines.items + 1;
  told : map told l.lines.items ++ enumerate_from (length l.lines.items + 1) (text_lines l.rest) ≡ enumerate_from 1 (text_lines l.text);
}

abbrev pub decreases-loop-bytes : goal.decreases-loop-bytes
decreases-loop-bytes l = length l.rest
