use Rattle.std.proofs.Common.{◌≡◌, take}
use Rattle.burr_forms.specs.Rules.Forms.{values}
use Rattle.burr_verify.proofs.point_state.operands_at.Given as goal

-- the first forms are taken at the point
abbrev pub invariant-loop-form : goal.invariant-loop-form
invariant-loop-form l = l.numbers.items ≡ values l.symbols.items (take l.form-index l.forms)
