use Rattle.std.proofs.Common.{◌≡◌, ◌≤◌, ◌-◌, slice_get}
use Rattle.burr_lines.specs.TextLines.{text_lines}
use Rattle.burr_lines.proofs.lines.numbered_line.Given as goal

-- what is wanted of the rest
abbrev pub invariant-loop : goal.invariant-loop
invariant-loop l = record {
  first : 1 ≤ l.counter;
  wanted : slice_get (text_lines l.rest) (l.number - l.counter) ≡ slice_get (text_lines l.text) (l.number - 1);
}
