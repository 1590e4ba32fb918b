-- A live slot's form is one more, if it is known.
use Rattle.std.proofs.Common.{rules, ◌≡◌, ◌+◌, ◌∙◌, ap, sym, subst, Some, List, [], ◌∷◌, ◌++◌, length, arith}
use Rattle.std.proofs.lemmas.List.{length_push}
use Rattle.std.proofs.lemmas.List.Elements.{All-push}
use Rattle.burr_forms.specs.Rules.Forms.{Form, IsSmallForm, AllSmallForms}
use Rattle.burr_container.specs.Views.Refs.{frame_of}
use Rattle.burr_frames.proofs.Numbering.{none_of, some_of}
use Rattle.burr_frames.proofs.LiveForms.{found_after, found_not_live, found_live, found_nothing, found_all}
use Rattle.burr_frames.proofs.state.State.live_forms.Goals as goal

pub loop-v-preserved-then-is_none : goal.loop-v-preserved-then-is_none
loop-v-preserved-then-is_none c =
    let old = c.loop-v.invariant in
    let none = none_of c.slot.result c.if-is_none.ensures in
    record {
      is = found_not_live c.loop-v.forms.items c.loop-v.v (frame_of c.args.frame.now).slots c.args.self.now.slots (c.slot.ensures.slot ∙ ap Some none) ∙ old.is;
      small = old.small;
      few = omega (arith, old.few);
    }

pub returns-in_err-slot : goal.returns-in_err-slot
returns-in_err-slot c =
    let some = some_of c.slot.result c.if-is_none.ensures in
    rw c.from_residual.ensures
    (sym c.loop-v.invariant.is
    ∙ found_nothing c.loop-v.forms.items c.loop-v.v (frame_of c.args.frame.now).slots c.args.self.now.slots some.0 (c.slot.ensures.slot ∙ ap Some some.1)
    c.in_err-slot.ensures.slot)

pub loop-v-preserved : goal.loop-v-preserved
loop-v-preserved c =
    let before = c.loop-v.forms.items in
    let form = c.in_ok-slot.field-0 in
    let known = c.args.self.now.slots in
    let old = c.loop-v.invariant in
    let some = some_of c.slot.result c.if-is_none.ensures in
    let items : c.push.new.self.items ≡ before ++ form ∷ [] = c.push.ensures.items in
    record {
      is = ap (λ (fs : List Form). found_after fs (c.loop-v.v + 1) (frame_of c.args.frame.now).slots known) items
          ∙ found_live before c.loop-v.v (frame_of c.args.frame.now).slots known some.0 form (c.slot.ensures.slot ∙ ap Some some.1)
          c.in_ok-slot.ensures.slot ∙ old.is;
      small = subst AllSmallForms (sym items) (All-push IsSmallForm before form old.small c.in_ok-slot.ensures.small.1);
      few = omega (arith, ap (length {A = Form}) items, length_push before form, old.few);
    }

pub returns : goal.returns
returns c =
    let eight : length c.args.frame.now.slots ≡ 8 = search rules in (
      sym c.loop-v.invariant.is
          ∙ found_all c.loop-v.forms.items c.loop-v.v (frame_of c.args.frame.now).slots c.args.self.now.slots (omega (arith, eight, c.loop-v-test.false)),
      c.loop-v.invariant.small,
    )
