-- The first numbers are small and given.
use Rattle.std.proofs.Common.{◌≡◌, ◌-◌, ◌++◌, take}
use Rattle.std.specs.Prelude.{pos, replicate}
use Rattle.burr_forms.specs.Rules.Forms.{AllSmall}
use Rattle.burr_forms.proofs.form.small_numbers.Given as goal

abbrev pub invariant-loop-symbol : goal.invariant-loop-symbol
invariant-loop-symbol l = record {
  given : l.given ≡ take l.symbol l.numbers ++ replicate (8 - l.symbol) (pos 0);
  small : AllSmall (take l.symbol l.numbers);
}
