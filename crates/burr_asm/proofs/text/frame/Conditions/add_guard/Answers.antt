use Rattle.std.proofs.Common.{◌≡◌, sym, subst}
use Rattle.burr_plantext.specs.Rules.Checks.{is_empty}
use Rattle.burr_asm.specs.Views.Frames.{ConditionParts, AreFor}
use Rattle.burr_asm.proofs.FrameParts.{guard_added}
use Rattle.burr_asm.proofs.text.frame.Conditions.add_guard.Goals as goal

pub returns : goal.returns
returns c = λ words h.
    let k = subst (λ (p : ConditionParts). AreFor p words) (sym c.self.view_is) h in
    let first = subst (λ (p : ConditionParts). c.takes_guards.result ≡ is_empty p.stack) (sym c.self.view_is) c.takes_guards.ensures in
    guard_added _ words k c.live_slots-live.result c.args.form.bytes.now c.args.line c.takes_guards.result _ c.add_form.result c.live_slots-live.ensures first c.if-not-takes_guards.false c.add_form.ensures
