use Rattle.std.proofs.Common.{◌-◌}
use Rattle.burr_container.specs.Views.Refs.{forms_of}
use Rattle.burr_container.proofs.Restored.{AreForms}
use Rattle.burr_container.proofs.restoring.forms.Given as goal

-- the other forms stand in the rest
abbrev pub invariant-loop : goal.invariant-loop
invariant-loop l = AreForms l.list.live (forms_of l.list) (l.list.count - l.counter) l.forms.items l.rest
