use Rattle.std.proofs.Common.{take}
use Rattle.burr_forms.specs.Views.Searching.{AllLack, AreNarrowRanges}
use Rattle.burr_forms.proofs.condition.narrowed.Given as goal

-- so far each range is narrowed
abbrev pub invariant-loop-symbol : goal.invariant-loop-symbol
invariant-loop-symbol l = AreNarrowRanges (λ k. AllLack k l.guards × AllLack k l.forms) (take l.symbol l.ranges) l.narrowed.items
