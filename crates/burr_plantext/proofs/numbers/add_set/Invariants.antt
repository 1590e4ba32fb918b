-- What is written, and what is still to be written, are all of it.
use Rattle.std.proofs.Common.{◌≡◌, ◌++◌}
use Rattle.burr_plantext.specs.Rules.Listing.{set_word}
use Rattle.burr_plantext.proofs.SetSteps.{set_left, left_from}
use Rattle.burr_plantext.proofs.numbers.add_set.Given as goal

abbrev pub invariant-loop-piece : goal.invariant-loop-piece
invariant-loop-piece l =
    l.text.items ++ set_left l.separator (left_from l.piece l.rest)
    ≡ l.initial.text.items ++ set_word l.fn.set
