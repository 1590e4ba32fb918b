use Rattle.std.proofs.Common.{◌≡◌, length}
use Rattle.std.specs.List.{list_all}
use Rattle.burr_plantext.specs.Rules.Written.{is_number, pieces}
use Rattle.burr_asm.proofs.text.words.are_numbers.Given as goal

-- what is left is judged as all of the bytes
abbrev pub invariant-loop-number : goal.invariant-loop-number
invariant-loop-number l = list_all is_number (pieces 44 l.fn.bytes) ≡ list_all is_number (pieces 44 l.rest)

abbrev pub decreases-loop-number : goal.decreases-loop-number
decreases-loop-number l = length l.rest
