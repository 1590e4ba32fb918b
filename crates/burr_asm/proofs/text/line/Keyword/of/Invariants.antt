use Rattle.std.proofs.Common.{◌≡◌, true, not, take}
use Rattle.std.specs.List.{list_all}
use Rattle.std.specs.Str.{bytes_eq}
use Rattle.burr_asm.proofs.text.line.Keyword.of.Given as goal

-- the word is not among those before
abbrev pub invariant-loop-text : goal.invariant-loop-text
invariant-loop-text l = list_all (λ entry. not (bytes_eq l.word entry.0.now)) (take l.text-index l.text-items) ≡ true
