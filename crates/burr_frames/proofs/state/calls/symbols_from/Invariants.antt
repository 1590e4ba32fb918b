use Rattle.std.proofs.Common.{◌≡◌, ◌+◌, ◌-◌, ◌++◌, length}
use Rattle.burr_forms.specs.Rules.Forms.{AllSmallForms}
use Rattle.burr_frames.specs.Rules.ControlRules.{symbols_from}
use Rattle.burr_frames.proofs.state.calls.symbols_from.Given as goal

-- with the symbols that are still to come, they are all
abbrev pub invariant-loop-number : goal.invariant-loop-number
invariant-loop-number l = record {
  is : l.symbols.items ++ symbols_from l.number ((l.first + l.count) - l.number) ≡ symbols_from l.first l.count;
  many : length l.symbols.items + l.first ≡ l.number;
  small : AllSmallForms l.symbols.items;
}
