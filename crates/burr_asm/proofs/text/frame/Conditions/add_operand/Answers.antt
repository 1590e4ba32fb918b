use Rattle.std.proofs.Common.{sym, subst}
use Rattle.burr_asm.specs.Views.Frames.{ConditionParts, AreFor}
use Rattle.burr_asm.proofs.FrameParts.{operand_added}
use Rattle.burr_asm.proofs.text.frame.Conditions.add_operand.Goals as goal

pub returns : goal.returns
returns c = λ words h.
    let k = subst (λ (p : ConditionParts). AreFor p words) (sym c.self.view_is) h in
    operand_added _ words k c.live_slots-live.result c.args.form.bytes.now c.args.line _ c.add_form.result c.live_slots-live.ensures c.add_form.ensures
