use Rattle.std.proofs.Common.{◌≡◌, take}
use Rattle.burr_forms.specs.Views.Searching.{steps_of}
use Rattle.burr_forms.proofs.points.steps_along.Given as goal

abbrev pub invariant-loop-form : goal.invariant-loop-form
invariant-loop-form l = l.steps.items ≡ steps_of l.symbol (take l.form-index l.forms)
