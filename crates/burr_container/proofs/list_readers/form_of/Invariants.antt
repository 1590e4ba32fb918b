-- The numbers of the symbols so far, and zeros after them.
use Rattle.std.proofs.Common.{◌≡◌, ◌-◌, ◌++◌, drop}
use Rattle.std.specs.Prelude.{pos, replicate}
use Rattle.burr_forms.specs.Rules.Forms.{AllSmall}
use Rattle.burr_container.specs.Views.Decoding.{words_in}
use Rattle.burr_container.proofs.list_readers.form_of.Given as goal

abbrev pub invariant-loop-symbol : goal.invariant-loop-symbol
invariant-loop-symbol l =
    (l.coefs ≡ words_in l.symbol (drop 4 l.bytes) ++ replicate (8 - l.symbol) (pos 0)) × AllSmall l.coefs
