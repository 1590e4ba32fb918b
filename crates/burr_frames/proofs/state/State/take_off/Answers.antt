-- The others are left.
use Rattle.std.proofs.Common.{◌≡◌, ◌-◌, ◌∙◌, ap, sym, subst, take, drop}
use Rattle.std.specs.Prelude.{reverse}
use Rattle.std.proofs.lemmas.List.Elements.{All-drop}
use Rattle.burr_forms.specs.Rules.Forms.{Form, IsSmallForm, AllSmallForms}
use Rattle.burr_frames.specs.Rules.States.{AbstractState}
use Rattle.burr_frames.proofs.Operands.{taken_off}
use Rattle.burr_frames.proofs.state.State.take_off.Goals as goal

pub invariant_of-self : goal.invariant_of-self
invariant_of-self c =
    let old = c.self.inside.operands.items in
    let left : reverse c.truncate.new.self.items ≡ drop 1 (reverse old) =
    ap (reverse {A = Form}) (c.truncate.ensures.items ∙ ap (λ n. take (n - 1) old) c.len-left.ensures.value) ∙ taken_off old in
    record {
      ranges = c.self.invariant.ranges;
      guards = c.self.invariant.guards;
      slots = c.self.invariant.slots;
      operands = subst AllSmallForms (sym left) (All-drop IsSmallForm 1 (reverse old) c.self.invariant.operands);
      places = c.self.invariant.places;
      cost = c.self.invariant.cost;
    }

pub returns-clause-left : goal.returns-clause-left
returns-clause-left c =
    let old = c.self.inside.operands.items in
    let same : reverse old ≡ c.args.self.now.operands = ap (λ (s : AbstractState). s.operands) c.self.view_is in
    let left : reverse c.truncate.new.self.items ≡ drop 1 (reverse old) =
    ap (reverse {A = Form}) (c.truncate.ensures.items ∙ ap (λ n. take (n - 1) old) c.len-left.ensures.value) ∙ taken_off old in
    λ i. record (c.self.view_is i) { operands = (left ∙ ap (drop 1) same) i }
