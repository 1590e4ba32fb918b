-- One range and one operand more.
use Rattle.std.proofs.Common.{◌≡◌, ◌∙◌, length, sym, ap, subst, [], ◌∷◌, ◌++◌}
use Rattle.std.specs.Prelude.{reverse}
use Rattle.std.proofs.lemmas.List.{reverse-append}
use Rattle.std.proofs.lemmas.List.Elements.{All-cons}
use Rattle.burr_forms.specs.Rules.Forms.{Form, symbol, IsSmallForm, AllSmallForms}
use Rattle.burr_forms.specs.Rules.Points.{AreRanges}
use Rattle.burr_frames.specs.Rules.States.{AbstractState}
use Rattle.burr_frames.proofs.Rooms.{handed_range, one_range_more}
use Rattle.burr_frames.proofs.state.State.add_symbol.Goals as goal

pub invariant_of-self : goal.invariant_of-self
invariant_of-self c =
    let old = c.self.inside.ranges.items in
    let form = c.symbol-form.result in
    let put = handed_range c.args.low c.args.high c.from.result c.from-2.result c.requires.range c.from.ensures c.from-2.ensures in
    let ranges : c.push.new.self.items ≡ old ++ (c.args.low, c.args.high) ∷ [] = c.push.ensures.items ∙ (λ i. old ++ put i ∷ []) in
    let operands : reverse c.push-2.new.self.items ≡ form ∷ reverse c.self.inside.operands.items =
    ap (reverse {A = Form}) c.push-2.ensures.items ∙ reverse-append c.self.inside.operands.items (form ∷ []) in
    record {
      ranges = subst AreRanges (sym ranges) (one_range_more old c.args.low c.args.high c.self.invariant.ranges c.requires.range);
      guards = c.self.invariant.guards;
      slots = c.self.invariant.slots;
      operands = subst AllSmallForms (sym operands) (All-cons IsSmallForm form (reverse c.self.inside.operands.items) c.symbol-form.ensures.small c.self.invariant.operands);
      places = c.self.invariant.places;
      cost = c.self.invariant.cost;
    }

pub returns : goal.returns
returns c =
    let view = c.self.view_is in
    let old = c.self.inside.ranges.items in
    let form = c.symbol-form.result in
    let put = handed_range c.args.low c.args.high c.from.result c.from-2.result c.requires.range c.from.ensures c.from-2.ensures in
    let ranges : c.push.new.self.items ≡ old ++ (c.args.low, c.args.high) ∷ [] = c.push.ensures.items ∙ (λ i. old ++ put i ∷ []) in
    let operands : reverse c.push-2.new.self.items ≡ form ∷ reverse c.self.inside.operands.items =
    ap (reverse {A = Form}) c.push-2.ensures.items ∙ reverse-append c.self.inside.operands.items (form ∷ []) in
    let named : form ≡ symbol (length old) = c.symbol-form.ensures.symbol ∙ ap symbol c.len.ensures.value in
    λ i. record (view i) {
      ranges = (ranges ∙ ap (λ (a : AbstractState). a.ranges ++ (c.args.low, c.args.high) ∷ []) view) i;
      operands = (operands ∙ ap (λ (f : Form). f ∷ reverse c.self.inside.operands.items) named ∙ ap (λ (a : AbstractState). symbol (length a.ranges) ∷ a.operands) view) i;
    }
