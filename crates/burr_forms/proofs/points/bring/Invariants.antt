use Rattle.std.proofs.Common.{◌≡◌, take}
use Rattle.burr_forms.specs.Rules.Forms.{values}
use Rattle.burr_forms.proofs.points.bring.Given as goal

abbrev pub invariant-loop-form : goal.invariant-loop-form
invariant-loop-form l = l.row.items ≡ values l.point.items (take l.form-index l.forms)
