-- What is written, and what is still to be written, are all of it.
use Rattle.std.proofs.Common.{◌≡◌, ◌++◌, drop}
use Rattle.std.specs.List.{flat_map}
use Rattle.burr_container.specs.Rules.Spelling.{procedure_bytes}
use Rattle.burr_container.proofs.writing.add_procedures.Given as goal

abbrev pub invariant-loop-procedure : goal.invariant-loop-procedure
invariant-loop-procedure l =
    l.bytes.items ++ flat_map (procedure_bytes l.version) (drop l.procedure-index l.procedures)
    ≡ l.initial.bytes.items ++ flat_map (procedure_bytes l.version) l.procedures
