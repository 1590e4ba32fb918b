use Rattle.std.proofs.Common.{◌≡◌, ◌-◌, [], get_or}
use Rattle.burr_lines.specs.TextLines.{words_of}
use Rattle.burr_lines.proofs.lines.Line.word.Given as goal

-- what is wanted of the rest
abbrev pub invariant-loop : goal.invariant-loop
invariant-loop l = get_or (words_of l.rest) (l.place - l.counter) [] ≡ get_or (words_of l.self.bytes.now) l.place []
