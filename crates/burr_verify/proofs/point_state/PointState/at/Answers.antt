-- At the end each part is that of the state at the point.
use Rattle.std.proofs.Common.{rules, ◌≡◌, ◌∙◌, List, length, sym, ap, arith}
use Rattle.std.specs.Prelude.{reverse, FitsSigned}
use Rattle.std.specs.Int.{w64}
use Rattle.std.proofs.lemmas.Int.{to_z-of_z}
use Rattle.std.proofs.lemmas.List.{take_all}
use Rattle.burr_code.specs.declared.placement.Placement.{Placement}
use Rattle.burr_container.specs.Rules.Plans.{FormCell}
use Rattle.burr_forms.specs.Rules.Forms.{Form, Point, value, values}
use Rattle.burr_frames.specs.Rules.States.{places_at}
use Rattle.burr_verify.proofs.PointNumbers.{at_same, reverse_values}
use Rattle.burr_verify.proofs.point_state.PointState.at.Goals as goal

pub returns : goal.returns
returns c = λ many near.
    (let point = c.loop-n.symbols.items in
    let all = many ∙ ap length (sym c.ranges-range-items.ensures.ranges) in
    let whole : point ≡ c.args.point.now =
    c.loop-n.invariant.same all near ∙ take_all c.loop-n.n c.args.point.now (omega (arith, all, c.loop-n-test.false)) in
    let fits : FitsSigned w64 c.value_at.result = search rules in
    at_same c.args.state.now point c.args.point.now _ whole (record {
      slots = c.slots_at.ensures;
      operands =
          ap reverse c.operands_at.ensures ∙ reverse_values point c.operands.result.now
          ∙ ap (λ (forms : List Form). values point forms) c.operands.ensures.operands;
      places = c.places_of.ensures ∙ ap (λ (places : List (Placement FormCell)). places_at point places) c.places.ensures.places;
      tray = c.tray.ensures;
      grip = c.grip.ensures;
      cost =
          to_z-of_z w64 c.value_at.result fits ∙ c.value_at.ensures
          ∙ ap (λ (p : Point). value p c.cost.result) c.deref.ensures.0 ∙ ap (λ (f : Form). value point f) c.cost.ensures.cost;
    }))
