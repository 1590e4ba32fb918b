-- A place with too large a form ends it; else one more is there.
use Rattle.std.proofs.Common.{◌≡◌, ◌+◌, ◌∙◌, ap, sym, subst, [], ◌∷◌, ◌++◌, take, map, slice_index_or, arith}
use Rattle.std.proofs.lemmas.List.{map_more, get_or-map, length-map}
use Rattle.std.proofs.lemmas.Result.{err_from_is_err_and}
use Rattle.burr_code.specs.declared.placement.Placement.{Placement}
use Rattle.burr_code.specs.Places.{at_position}
use Rattle.burr_forms.specs.Rules.Forms.{Form}
use Rattle.burr_container.specs.Rules.Plans.{FormCell}
use Rattle.burr_frames.specs.Rules.ControlRules.{substituted_cell}
use Rattle.burr_frames.specs.Rules.SpaceRules.{AllSmallPlaces}
use Rattle.burr_frames.proofs.SmallPlaces.{small_place_at, small_append}
use Rattle.burr_frames.proofs.state.calls.places_with.Goals as goal

-- other forms in place of a cell's own
abbrev with_forms : (Form → Form) → FormCell → FormCell
with_forms put c = record { x = put c.x; y = put c.y; z = put c.z }

pub substituted-requires-clause-small : goal.substituted-requires-clause-small
substituted-requires-clause-small c =
    subst (λ (x : Placement FormCell). AllSmallPlaces (x ∷ [])) (sym c.index-there-piece.is)
    (small_place_at c.args.there.now c.loop-piece.piece c.index-there-piece.result c.requires.small_places c.loop-piece-test.true)

pub returns-in_err-substituted : goal.returns-in_err-substituted
returns-in_err-substituted c =
    let arguments = c.args.symbols.now in
    let there = c.args.there.now in
    let piece = c.loop-piece.piece in
    let place = c.index-there-piece.result in
    let change = at_position (substituted_cell arguments) in
    let given : at_position (substituted_cell c.padded-forms.result) place ≡ change place =
    ap (λ (put : Form → Form). at_position (with_forms put) place) c.padded-forms.ensures.padded in
    let here : slice_index_or (map change there) piece place ≡ change place =
    get_or-map change there piece place place c.loop-piece-test.true ∙ ap change (sym c.index-there-piece.is) in
    let p = err_from_is_err_and c.from_residual.result c.from_residual.ensures.1 in
    rw p.1
    (λ small. c.in_err-substituted.ensures
    (subst (λ (x : Placement FormCell). AllSmallPlaces (x ∷ [])) (here ∙ sym given)
    (small_place_at (map change there) piece place small (omega (arith, length-map there change, c.loop-piece-test.true)))))

pub loop-piece-preserved : goal.loop-piece-preserved
loop-piece-preserved c =
    let arguments = c.args.symbols.now in
    let there = c.args.there.now in
    let piece = c.loop-piece.piece in
    let place = c.index-there-piece.result in
    let before = c.loop-piece.places.items in
    let next = c.in_ok-substituted.field-0 in
    let change = at_position (substituted_cell arguments) in
    let given : next ≡ change place =
    c.in_ok-substituted.ensures.0 ∙ ap (λ (put : Form → Form). at_position (with_forms put) place) c.padded-forms.ensures.padded in
    let items : c.push.new.self.items ≡ before ++ next ∷ [] = c.push.ensures.items in
    let more : map change (take (piece + 1) there) ≡ map change (take piece there) ++ change place ∷ [] =
    map_more change there piece place c.loop-piece-test.true
    ∙ ap (λ (x : Placement FormCell). map change (take piece there) ++ change x ∷ []) (sym c.index-there-piece.is) in
    record {
      is = items ∙ (λ i. c.loop-piece.invariant.is i ++ given i ∷ []) ∙ sym more;
      small = subst AllSmallPlaces (sym items) (small_append before (next ∷ []) c.loop-piece.invariant.small c.in_ok-substituted.ensures.1);
    }
