use Rattle.std.proofs.Common.{◌≡◌, map, drop, string_bytes}
use Rattle.burr_command.specs.Asking.{is_flagged}
use Rattle.burr_command.proofs.job.has_flag.Given as goal

-- the words to come decide
abbrev pub invariant-loop-word : goal.invariant-loop-word
invariant-loop-word l =
    is_flagged l.name (map string_bytes l.words) ≡ is_flagged l.name (map string_bytes (drop l.word-index l.words))
