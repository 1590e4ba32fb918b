-- Each piece gives the forms of its offset.
use Rattle.std.proofs.Common.{◌≡◌, ◌∙◌, ap, sym, List, [], ◌∷◌, ◌++◌, length, take, append_assoc, arith}
use Rattle.std.proofs.lemmas.List.{length-append}
use Rattle.burr_forms.specs.Rules.Forms.{Form}
use Rattle.burr_frames.specs.Views.Comparing.{offset_forms}
use Rattle.burr_frames.proofs.Offsets.{offsets_more, three_at_most}
use Rattle.burr_frames.proofs.state.meeting.append_offsets.Goals as goal

pub loop-piece-preserved : goal.loop-piece-preserved
loop-piece-preserved c =
    let p = c.loop-piece.piece in
    let places = c.args.places.now in
    let place = c.index-places-piece.result in
    let old = c.loop-piece.invariant in
    let before = c.loop-piece.forms.items in
    let front = offset_forms (take p places) in
    let here = offset_forms (place ∷ []) in
    let items : c.append_offset.new.forms.items ≡ before ++ here = c.append_offset.ensures in
    let few = three_at_most place in
    record {
      forms = items ∙ ap (λ (fs : List Form). fs ++ here) old.forms
          ∙ append_assoc c.args.forms.now.items front here
          ∙ ap (λ (fs : List Form). c.args.forms.now.items ++ fs) (sym (offsets_more places p place c.loop-piece-test.true c.index-places-piece.is));
      room = omega (arith, ap (length {A = Form}) items, length-append before here, old.room, few);
    }
