-- The forms of one place more, or none where it is not in the tray.
use Rattle.std.proofs.Common.{◌≡◌, ◌∙◌, ap, sym, subst, List, [], ◌∷◌, ◌++◌, length, arith}
use Rattle.std.proofs.lemmas.List.{length-append}
use Rattle.burr_code.specs.declared.placement.Placement.{Placement}
use Rattle.burr_container.specs.Rules.Plans.{FormCell}
use Rattle.std.proofs.lemmas.List.Elements.{All-append}
use Rattle.burr_forms.specs.Rules.Forms.{Form, IsSmallForm, AllSmallForms}
use Rattle.burr_frames.specs.Rules.SpaceRules.{AllSmallPlaces}
use Rattle.burr_frames.specs.Views.Comparing.{offset_forms}
use Rattle.burr_frames.proofs.Offsets.{one_here, one_past, three_at_most, small_offsets}
use Rattle.burr_frames.proofs.SmallPlaces.{small_place_at}
use Rattle.burr_frames.proofs.state.moves.put_offsets.Goals as goal
use Rattle.burr_frames.proofs.state.moves.put_offsets.Goals.{then-is_in, else-is_in}

pub loop-place-preserved : goal.loop-place-preserved
loop-place-preserved c =
    let old = c.loop-place.invariant in
    let place = c.place-item.result in
    let before = c.loop-place.offsets.items in
    let here = offset_forms (place ∷ []) in
    let few = three_at_most place in
    let small = subst (λ (x : Placement FormCell). AllSmallPlaces (x ∷ [])) (sym c.place-item.is)
    (small_place_at c.args.places.now c.loop-place.place-index place c.requires.small c.loop-place-test.true) in
    elim c.if-is_in.branch [
      | then-is_in w ↦
          let items : w.append_offset.new.forms.items ≡ before ++ here = w.append_offset.ensures in
          rw w.offsets-is (record {
            forms = items ∙ ap (λ (fs : List Form). fs ++ here) old.forms
                ∙ sym (one_here c.args.tray c.args.places.now c.loop-place.place-index place c.loop-place-test.true
                c.place-item.is (sym c.is_in.ensures ∙ w.if-is_in.true));
            small = subst AllSmallForms (sym items) (All-append IsSmallForm before here old.small (small_offsets (place ∷ []) small));
            room = omega (arith, ap (length {A = Form}) items, length-append before here, old.room, few);
          })
      | else-is_in w ↦ rw w.offsets-is (record {
        forms = old.forms ∙ sym (one_past c.args.tray c.args.places.now c.loop-place.place-index place c.loop-place-test.true
            c.place-item.is (sym c.is_in.ensures ∙ w.if-is_in.false));
        small = old.small;
        room = omega (arith, old.room);
      })
    ]
