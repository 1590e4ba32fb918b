-- The values that are compared meet the exit frame just where the state does.
use Rattle.std.proofs.Common.{◌≡◌, ◌∙◌, List, ◌++◌, length, sym, ap, subst, arith}
use Rattle.std.proofs.lemmas.List.{length-append}
use Rattle.std.proofs.lemmas.List.Elements.{All-nil}
use Rattle.burr_text.proofs.Common.Tests.{yes_of}
use Rattle.burr_code.specs.declared.placement.Placement.{Placement}
use Rattle.burr_forms.specs.Rules.Forms.{Form, IsSmallForm, AllSmallForms}
use Rattle.burr_forms.specs.Rules.Points.{AreRanges}
use Rattle.burr_container.specs.Rules.Plans.{FormCell, Range}
use Rattle.burr_frames.specs.Rules.FramedPlans.{FramedExit}
use Rattle.burr_frames.specs.Views.Comparing.{offset_forms}
use Rattle.burr_frames.specs.Rules.SpaceRules.{AllSmallPlaces}
use Rattle.burr_frames.proofs.After.{small_joined}
use Rattle.burr_frames.proofs.Agreement.{as_many}
use Rattle.burr_frames.proofs.ExitMeetings.{asked_at_exit, judged_exit}
use Rattle.burr_frames.proofs.state.State.meets_exit_with.Goals as goal

pub invariant_of-agreement : goal.invariant_of-agreement
invariant_of-agreement c =
    let s = c.args.self.now in
    let exit = c.args.exit.now in
    let parameters = c.args.parameters.now in
    let results = c.args.results.now in
    let ranges : c.as_slice-4.result.now ≡ exit.results = c.as_slice-4.ensures.value ∙ ap (λ (e : FramedExit). e.results) c.exit.view_is in
    let places : c.as_slice-2.result.now ≡ exit.places = c.as_slice-2.ensures.value ∙ ap (λ (e : FramedExit). e.places) c.exit.view_is in
    record {
      shape = omega (
        arith,
        ap (length {A = Form}) (c.as_slice-3.ensures.value ∙ c.compared-ours.ensures.forms),
        ap (length {A = Form}) (c.as_slice-6.ensures.value ∙ c.compared-theirs.ensures.forms),
        ap (length {A = Form}) (c.as_slice.ensures.value ∙ c.joined-symbols.ensures),
        ap (length {A = Range}) ranges,
        ap (λ (ps : List (Placement FormCell)). length (offset_forms ps)) c.places.ensures.places,
        ap (λ (ps : List (Placement FormCell)). length (offset_forms ps)) places,
        length-append c.as_slice.result.now (offset_forms c.places.result.now),
        length-append parameters results,
        c.requires.many,
        as_many s.places exit.places (yes_of c.if-not-is_alike_exit.ensures).2,
      );
      few = omega (arith, ap (length {A = Range}) ranges, c.requires.many, c.requires.few);
      are = subst AreRanges (sym c.as_slice-4.ensures.value) c.exit.invariant.results;
      guards_small = subst AllSmallForms (sym c.as_slice-5.ensures.value) c.exit.invariant.guards;
      least_small = All-nil IsSmallForm;
      same_small = subst AllSmallForms (sym c.as_slice-6.ensures.value) c.compared-theirs.ensures.small;
    }

pub returns : goal.returns
returns c =
    let s = c.args.self.now in
    let exit = c.args.exit.now in
    let parameters = c.args.parameters.now in
    let results = c.args.results.now in
    let alike = yes_of c.if-not-is_alike_exit.ensures in
    let places : c.as_slice-2.result.now ≡ exit.places = c.as_slice-2.ensures.value ∙ ap (λ (e : FramedExit). e.places) c.exit.view_is in
    let symbols : c.as_slice.result.now ≡ parameters ++ results = c.as_slice.ensures.value ∙ c.joined-symbols.ensures in
    let asked : c.as_slice-3.result.now ≡ asked_at_exit s parameters results =
    c.as_slice-3.ensures.value ∙ c.compared-ours.ensures.forms ∙ (λ i. symbols i ++ offset_forms (c.places.ensures.places i)) in
    judged_exit s exit parameters results c.requires.many alike.2 alike c.holds_in.result _ _ _ _ _ c.region.ensures.points
    (c.as_slice-4.ensures.value ∙ ap (λ (e : FramedExit). e.results) c.exit.view_is)
    (c.as_slice-5.ensures.value ∙ ap (λ (e : FramedExit). e.guards) c.exit.view_is)
    (c.as_slice-6.ensures.value ∙ c.compared-theirs.ensures.forms ∙ ap offset_forms places) asked c.holds_in.ensures

-- What the calls ask for

pub compared-ours-requires-clause-small : goal.compared-ours-requires-clause-small
compared-ours-requires-clause-small c =
    small_joined c.args.parameters.now c.args.results.now c.joined-symbols.result.items c.as_slice.result.now c.requires.small c.requires.results_small
    c.joined-symbols.ensures c.as_slice.ensures.value

pub compared-theirs-requires-clause-places_small : goal.compared-theirs-requires-clause-places_small
compared-theirs-requires-clause-places_small c = subst AllSmallPlaces (sym c.as_slice-2.ensures.value) c.exit.invariant.places

pub holds_in-requires-clause-forms : goal.holds_in-requires-clause-forms
holds_in-requires-clause-forms c = subst AllSmallForms (sym c.as_slice-3.ensures.value) c.compared-ours.ensures.small
