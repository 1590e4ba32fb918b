use Rattle.burr_forms.specs.Rules.Forms.{AllNear}
use Rattle.burr_verify.proofs.point_state.point_of.Given as goal

-- all numbers so far are near
abbrev pub invariant-loop-number : goal.invariant-loop-number
invariant-loop-number l = AllNear l.point.items
