use Rattle.std.proofs.Common.{◌≡◌, ℕ, sym, ap, subst, refl, ◌∙◌}
use Rattle.std.specs.Prelude.{◌&&◌}
use Rattle.burr_container.specs.Rules.Plans.{Range}
use Rattle.burr_plantext.specs.Rules.Checks.{P3, is_empty}
use Rattle.burr_asm.specs.Views.Frames.{ConditionParts, AreFor}
use Rattle.burr_asm.specs.Views.LineWords.{slot_words}
use Rattle.burr_asm.proofs.Refusals.{refused}
use Rattle.burr_asm.proofs.FrameParts.{no_slot, one_slot, with_slot}
use Rattle.burr_asm.proofs.text.frame.Conditions.add_slot.Goals as goal

pub returns-in-Some : goal.returns-in-Some
returns-in-Some c = λ words h.
    let k = subst (λ (p : ConditionParts). AreFor p words) (sym c.self.view_is) h in
    let first = subst (λ (p : ConditionParts). c.takes_slots.result ≡ (is_empty p.guards && is_empty p.stack)) (sym c.self.view_is) c.takes_slots.ensures in
    let is = c.in-Some.ensures.value in
    let slot = slot_words c.args.words in (
      one_slot _ words k slot c.takes_slots.result first c.if-not-takes_slots.false is.0,
      with_slot _ words k slot c.from.result c.in-Some.range _ is.0 (c.from.ensures ∙ ap (λ (f : ℕ × Range). f.0) is.1) (ap (λ (f : ℕ × Range). f.1) is.1) refl,
    )

pub returns-in-None : goal.returns-in-None
returns-in-None c = λ words h.
    let k = subst (λ (p : ConditionParts). AreFor p words) (sym c.self.view_is) h in
    let first = subst (λ (p : ConditionParts). c.takes_slots.result ≡ (is_empty p.guards && is_empty p.stack)) (sym c.self.view_is) c.takes_slots.ensures in
    refused _ P3 c.args.line (no_slot _ words k (slot_words c.args.words) c.takes_slots.result first c.if-not-takes_slots.false c.in-None.ensures.value)
