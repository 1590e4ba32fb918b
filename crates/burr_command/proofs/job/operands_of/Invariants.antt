use Rattle.std.proofs.Common.{◌≡◌, ◌++◌, map, drop, string_bytes, if◌then◌else◌}
use Rattle.burr_command.specs.Asking.{operands}
use Rattle.burr_command.proofs.job.operands_of.Given as goal

-- the operands of the words to come are left: after `--` all of them
abbrev pub invariant-loop-word : goal.invariant-loop-word
invariant-loop-word l =
    let rest = map string_bytes (drop l.word-index l.words) in
    operands l.name (map string_bytes l.words)
    ≡ map (λ operand. operand.now) l.operands.items ++ (if l.is_after_hyphens then rest else operands l.name rest)
