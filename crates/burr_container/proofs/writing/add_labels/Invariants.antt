-- What is written, and what is still to be written, are all of it.
use Rattle.std.proofs.Common.{◌≡◌, ◌++◌, drop}
use Rattle.std.specs.List.{flat_map}
use Rattle.burr_container.specs.Rules.Spelling.{label_bytes}
use Rattle.burr_container.proofs.writing.add_labels.Given as goal

abbrev pub invariant-loop-label : goal.invariant-loop-label
invariant-loop-label l =
    l.bytes.items ++ flat_map label_bytes (drop l.label-index l.labels)
    ≡ l.initial.bytes.items ++ flat_map label_bytes l.labels
