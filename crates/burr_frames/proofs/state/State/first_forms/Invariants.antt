use Rattle.std.proofs.Common.{◌≡◌, length, Some}
use Rattle.burr_forms.specs.Rules.Forms.{AllSmallForms}
use Rattle.burr_frames.specs.Rules.ControlRules.{first_forms}
use Rattle.burr_frames.proofs.state.State.first_forms.Given as goal

-- the forms of the slots so far
abbrev pub invariant-loop-v : goal.invariant-loop-v
invariant-loop-v l = record {
  is : first_forms l.v l.self.slots ≡ Some l.forms.items;
  many : length l.forms.items ≡ l.v;
  small : AllSmallForms l.forms.items;
}
