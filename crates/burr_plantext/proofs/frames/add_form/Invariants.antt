-- What is written, and what is still to be written, are all of it.
use Rattle.std.proofs.Common.{◌≡◌, ◌++◌, drop}
use Rattle.burr_plantext.specs.Views.Symbols.{symbol_terms}
use Rattle.burr_plantext.proofs.frames.add_form.Given as goal

abbrev pub invariant-loop-symbol : goal.invariant-loop-symbol
invariant-loop-symbol l =
    l.text.items ++ symbol_terms (drop l.symbol l.symbols) (drop l.symbol l.form.coefs)
    ≡ l.initial.text.items ++ symbol_terms l.symbols l.form.coefs
