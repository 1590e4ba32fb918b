-- The value where the symbols so far alone count.
use Rattle.std.proofs.Common.{◌≡◌, take}
use Rattle.burr_forms.specs.Rules.Forms.{value}
use Rattle.burr_frames.proofs.forms.wide_value.Given as goal

abbrev pub invariant-loop-symbol : goal.invariant-loop-symbol
invariant-loop-symbol l = l.sum ≡ value (take l.symbol l.symbols) l.form
