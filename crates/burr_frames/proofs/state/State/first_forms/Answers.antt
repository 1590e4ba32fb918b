-- The loop ends at a slot that is not known; else it adds the slot's form.
use Rattle.std.proofs.Common.{◌≡◌, ◌+◌, ◌∙◌, ap, sym, subst, List, [], ◌∷◌, ◌++◌, Some, length, arith, ◌<◌, ℕ, zero, suc, refl, None, Option, get_or}
use Rattle.std.proofs.lemmas.List.{length_push}
use Rattle.std.proofs.lemmas.List.Elements.{All-push}
use Rattle.burr_forms.specs.Rules.Forms.{Form, IsSmallForm, AllSmallForms}
use Rattle.burr_frames.specs.Rules.ControlRules.{first_forms}
use Rattle.std.proofs.lemmas.Option.{same_Some}
use Rattle.burr_code.specs.Labels.{with_first}
use Rattle.burr_code.proofs.Common.Labels.{with_first_is}
use Rattle.burr_frames.proofs.state.State.first_forms.Goals as goal

-- nothing is known of one of them
first_unknown : (v count : ℕ) (slots : List (Option Form)) → v < count → get_or slots v None ≡ None
    → first_forms count slots ≡ None
first_unknown v zero slots l e = absurd (omega (arith, l))
first_unknown (suc v) (suc count) (Some f ∷ slots) l e =
    ap (with_first (Some f)) (first_unknown v count slots (omega (arith, l)) e)
first_unknown v (suc count) [] l e = refl
first_unknown v (suc count) (None ∷ slots) l e = refl
first_unknown zero (suc count) (Some f ∷ slots) l e = cc

-- one form more
first_more : (v : ℕ) (slots : List (Option Form)) (forms : List Form) (f : Form) → first_forms v slots ≡ Some forms
    → get_or slots v None ≡ Some f → first_forms (suc v) slots ≡ Some (forms ++ f ∷ [])
first_more zero (slot ∷ slots) forms f e g =
    ap (λ (s : Option Form). with_first s (Some [])) g
    ∙ ap (λ (fs : List Form). Some (fs ++ f ∷ [])) (same_Some [] forms e)
first_more (suc v) (Some x ∷ slots) forms f e g =
    let more = with_first_is (Some x) (first_forms v slots) forms e in
    ap (with_first (Some x)) (first_more v slots more.1 f more.3 g)
    ∙ cc (more.2, more.4)
first_more v slots forms f e g = cc

first_push : (v : ℕ) (slots : List (Option Form)) (forms : List Form) (f : Form) → first_forms v slots ≡ Some forms
    → get_or slots v None ≡ Some f → first_forms (v + 1) slots ≡ Some (forms ++ f ∷ [])
first_push v slots forms f e g =
    let more : v + 1 ≡ suc v = omega arith in
    ap (λ (n : ℕ). first_forms n slots) more ∙ first_more v slots forms f e g

pub returns-in_err-slot : goal.returns-in_err-slot
returns-in_err-slot c =
    rw c.from_residual.ensures
    (first_unknown c.loop-v.v c.args.count c.args.self.now.slots c.loop-v-test.true c.in_err-slot.ensures.slot)

pub loop-v-preserved : goal.loop-v-preserved
loop-v-preserved c =
    let before = c.loop-v.forms.items in
    let form = c.in_ok-slot.field-0 in
    let items : c.push.new.self.items ≡ before ++ form ∷ [] = c.push.ensures.items in
    let old = c.loop-v.invariant in
    record {
      is = first_push c.loop-v.v c.args.self.now.slots before form old.is c.in_ok-slot.ensures.slot ∙ ap (λ (fs : List Form). Some fs) (sym items);
      many = ap (length {A = Form}) items ∙ length_push before form ∙ ap (λ n. n + 1) old.many;
      small = subst AllSmallForms (sym items) (All-push IsSmallForm before form old.small c.in_ok-slot.ensures.small.1);
    }

pub returns : goal.returns
returns c =
    let all : c.loop-v.v ≡ c.args.count = omega (arith, c.loop-v-test.false, c.loop-v.auto.v-end) in (
      subst (λ n. first_forms n c.args.self.now.slots ≡ Some c.loop-v.forms.items) all c.loop-v.invariant.is,
      c.loop-v.invariant.many ∙ all,
      c.loop-v.invariant.small,
    )
