-- The topmost is small, as all are.
use Rattle.std.proofs.Common.{◌-◌, ◌∙◌, sym, subst, length}
use Rattle.burr_forms.specs.Rules.Forms.{AllSmallForms}
use Rattle.burr_frames.proofs.Offsets.{small_reversed}
use Rattle.burr_frames.proofs.Operands.{small_found}
use Rattle.burr_frames.proofs.state.State.topmost.Goals as goal

pub returns-clause-small : goal.returns-clause-small
returns-clause-small c =
    small_found c.deref.result.now (length c.deref.result.now - 1) c.copied.result (c.copied.ensures ∙ c.last.ensures.value)
    (subst AllSmallForms (sym c.deref.ensures.0) (small_reversed c.self.inside.operands.items c.self.invariant.operands))
