-- What is written, and what is still to be written, are all of it.
use Rattle.std.proofs.Common.{◌≡◌, ◌++◌, ◌∷◌, drop, map, codes}
use Rattle.std.specs.List.{join_with_byte}
use Rattle.burr_plantext.specs.Rules.Listing.{label_name}
use Rattle.burr_plantext.proofs.Offers.{offered}
use Rattle.burr_plantext.proofs.code.add_pick.Given as goal

abbrev pub invariant-loop-n : goal.invariant-loop-n
invariant-loop-n l =
    l.text.items ++ offered (drop l.n l.labels)
    ≡ l.fn.text.items ++ join_with_byte 32 (codes "pick" ∷ map label_name l.labels)
