-- What is written, and what is still to be written, are all of it.
use Rattle.std.proofs.Common.{◌≡◌, ◌++◌, drop}
use Rattle.std.specs.List.{flat_map}
use Rattle.burr_code.specs.Instruction.{signed_word}
use Rattle.burr_container.specs.Rules.Plans.{of_live}
use Rattle.burr_container.proofs.writing.add_coefs.Given as goal

abbrev pub invariant-loop-v : goal.invariant-loop-v
invariant-loop-v l =
    l.bytes.items ++ flat_map signed_word (of_live (drop l.v l.live) (drop l.v l.coefs))
    ≡ l.initial.bytes.items ++ flat_map signed_word (of_live l.live l.coefs)
