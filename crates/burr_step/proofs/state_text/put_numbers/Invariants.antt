-- The numbers that remain are still to be put.
use Rattle.std.proofs.Common.{drop, map}
use Rattle.std.specs.Fmt.{signed_decimal}
use Rattle.burr_io.proofs.Common.Puts.{Remains}
use Rattle.burr_step.specs.Views.ShownParts.{spaced_words}
use Rattle.burr_step.proofs.state_text.put_numbers.Given as goal

abbrev pub invariant-loop-number : goal.invariant-loop-number
invariant-loop-number g l =
    Remains g.W.Sink l.fn.sink l.sink (spaced_words (map signed_decimal l.numbers))
    (spaced_words (map signed_decimal (drop l.number-index l.numbers)))
