-- A form that is not the other one with arguments, or that would be too large so, ends it.
use Rattle.std.proofs.Common.{◌≡◌, ◌∙◌, ◌<◌, ◌++◌, [], ◌∷◌, Bool, true, false, List, length, sym, ap, subst, slice_index_or, arith}
use Rattle.std.specs.Prelude.{not}
use Rattle.std.proofs.lemmas.List.{get_or-map, map_more, take_more}
use Rattle.std.proofs.lemmas.List.Elements.{All-get_or}
use Rattle.burr_text.proofs.Common.Tests.{no_iff}
use Rattle.burr_forms.specs.Rules.Forms.{Form, IsSmallForm, substituted}
use Rattle.burr_frames.proofs.Settled.{form_decides}
use Rattle.burr_frames.proofs.state.meeting.are_substituted.Goals as goal

unlike : (b : Bool) → true ≡ not b → b ≡ true → ⊥
unlike true e f = grind arith
unlike false e f = grind arith

alike : (b : Bool) → false ≡ not b → b ≡ true
alike true e = grind arith
alike false e = grind arith

pub returns-in_default : goal.returns-in_default
returns-in_default c =
    let k = c.loop-place.place in
    let g = c.index-others-place.result in
    let made = substituted c.args.arguments.now in
    let more : k < length c.args.others.now = omega (arith, c.requires.pairs, c.loop-place-test.true) in
    no_iff
    (λ same. c.in_default.ensures
    (subst IsSmallForm
    (ap (λ (forms : List Form). slice_index_or forms k (made g)) (sym same) ∙ get_or-map made c.args.others.now k g (made g) more ∙ ap made (sym c.index-others-place.is))
    (All-get_or IsSmallForm c.args.forms.now k (made g) c.loop-place-test.true c.requires.small)))

pub returns-then-ne : goal.returns-then-ne
returns-then-ne c =
    let k = c.loop-place.place in
    let f = c.index-forms-place.result in
    let g = c.index-others-place.result in
    let made = substituted c.args.arguments.now in
    let more : k < length c.args.others.now = omega (arith, c.requires.pairs, c.loop-place-test.true) in
    no_iff
    (λ same. unlike _ c.if-ne.ensures
    ((form_decides c.in-Ok.found f).1
    (c.in-Ok.ensures.0 ∙ ap made c.index-others-place.is ∙ sym (get_or-map made c.args.others.now k g f more)
    ∙ ap (λ (forms : List Form). slice_index_or forms k f) same ∙ sym c.index-forms-place.is)))

pub loop-place-preserved : goal.loop-place-preserved
loop-place-preserved c =
    let k = c.loop-place.place in
    let f = c.index-forms-place.result in
    let g = c.index-others-place.result in
    let made = substituted c.args.arguments.now in
    let more : k < length c.args.others.now = omega (arith, c.requires.pairs, c.loop-place-test.true) in
    let here : c.in-Ok.found ≡ f = (form_decides c.in-Ok.found f).0 (alike _ c.if-ne.ensures) in
    let last : made (slice_index_or c.args.others.now k g) ≡ slice_index_or c.args.forms.now k f =
    ap made (sym c.index-others-place.is) ∙ sym c.in-Ok.ensures.0 ∙ here ∙ c.index-forms-place.is in
    map_more made c.args.others.now k g more ∙ (λ i. c.loop-place.invariant i ++ last i ∷ []) ∙ sym (take_more c.args.forms.now k f c.loop-place-test.true)
