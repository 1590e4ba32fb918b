-- The forms in the live slots, where the state agrees with the frame at all of its points: where the
-- values that are compared meet those of the frame's state.
use Rattle.std.proofs.Common.{◌≡◌, ◌∙◌, ◌++◌, List, length, sym, ap, subst, arith}
use Rattle.std.specs.Prelude.{reverse}
use Rattle.std.proofs.lemmas.List.{length-append, length-reverse, reverse-reverse}
use Rattle.burr_text.proofs.Common.Tests.{yes_of}
use Rattle.burr_code.specs.declared.placement.Placement.{Placement}
use Rattle.burr_forms.specs.Rules.Forms.{Form, AllSmallForms}
use Rattle.burr_forms.specs.Rules.Points.{AreRanges}
use Rattle.burr_container.specs.Rules.Plans.{FormCell, Range}
use Rattle.burr_container.specs.Views.Refs.{frame_of}
use Rattle.burr_frames.specs.Rules.FramedPlans.{framed}
use Rattle.burr_frames.specs.Rules.States.{AbstractState, region_of, state_of}
use Rattle.burr_frames.specs.Rules.Arrival.{IsAlike}
use Rattle.burr_frames.specs.Views.ArrivalViews.{AgreesAbove, AgreesOrMisses, HoldsOrMisses}
use Rattle.burr_frames.specs.Views.Comparing.{offset_forms}
use Rattle.burr_frames.proofs.Agreement.{as_many, judged_agreement}
use Rattle.burr_frames.proofs.LiveForms.{as_many_found}
use Rattle.burr_frames.proofs.Meetings.{agrees_or_misses}
use Rattle.burr_frames.proofs.state.State.agreed.Goals as goal

-- operands and places as they are read
read : (operands given : List Form) (places lent : List (Placement FormCell)) → reverse given ≡ operands → lent ≡ places
    → given ++ offset_forms lent ≡ reverse operands ++ offset_forms places
read operands given places lent turned same =
    let back : given ≡ reverse operands = sym (reverse-reverse given) ∙ ap reverse turned in λ i. back i ++ offset_forms (same i)

pub invariant_of-agreement : goal.invariant_of-agreement
invariant_of-agreement c =
    let s = c.args.self.now in
    let t = c.args.there.now in
    let upper = c.args.upper.now in
    let alike = yes_of c.if-not-is_alike.ensures in
    let ranges : c.as_slice-3.result.now ≡ t.ranges = c.as_slice-3.ensures.value ∙ ap (λ (a : AbstractState). a.ranges) c.there.view_is in
    let others = read s.operands _ s.places _ c.operands.ensures.operands c.places.ensures.places in
    let met = read t.operands _ t.places _ c.operands-2.ensures.operands c.places-2.ensures.places in
    let forms : c.as_slice-2.result.now ≡ c.as_slice.result.now ++ (upper ++ (reverse s.operands ++ offset_forms s.places)) =
    c.as_slice-2.ensures.value ∙ c.compared-ours.ensures.forms ∙ (λ i. c.as_slice.result.now ++ (upper ++ others i)) in
    let same : c.as_slice-5.result.now ≡ reverse t.operands ++ offset_forms t.places =
    c.as_slice-5.ensures.value ∙ c.compared-theirs.ensures.forms ∙ met in
    let live : length c.as_slice.result.now ≡ length t.ranges =
    ap (length {A = Form}) c.as_slice.ensures.value
    ∙ as_many_found c.args.frame.now.slots s.slots c.in-Some.live.items c.in-Some.ensures.0
    ∙ sym (ap (λ (a : AbstractState). length a.ranges) c.requires.there) in
    record {
      shape = omega (
        arith,
        ap (length {A = Form}) forms,
        ap (length {A = Form}) same,
        ap (length {A = Range}) ranges,
        length-append c.as_slice.result.now (upper ++ (reverse s.operands ++ offset_forms s.places)),
        length-append upper (reverse s.operands ++ offset_forms s.places),
        live,
        c.requires.rows,
        length-append (reverse s.operands) (offset_forms s.places),
        length-append (reverse t.operands) (offset_forms t.places),
        length-reverse s.operands,
        length-reverse t.operands,
        alike.operands,
        as_many s.places t.places alike.trays,
      );
      few = omega (arith, c.as_slice-3.ensures.fits);
      are = subst AreRanges (sym c.as_slice-3.ensures.value) c.there.invariant.ranges;
      guards_small = subst AllSmallForms (sym c.as_slice-4.ensures.value) c.there.invariant.guards;
      least_small = c.requires.least_small;
      same_small = subst AllSmallForms (sym c.as_slice-5.ensures.value) c.compared-theirs.ensures.small;
    }

-- another state, and the forms in its symbols' place
abbrev Other : Type 0
Other = AbstractState × List Form

pub returns : goal.returns
returns c =
    let s = c.args.self.now in
    let t = c.args.there.now in
    let f = framed (frame_of c.args.frame.now) in
    let upper = c.args.upper.now in
    let least = c.args.least.now in
    let alike = yes_of c.if-not-is_alike.ensures in
    let others = read s.operands _ s.places _ c.operands.ensures.operands c.places.ensures.places in
    let met = read t.operands _ t.places _ c.operands-2.ensures.operands c.places-2.ensures.places in
    let many = ap (length {A = Form}) c.as_slice.ensures.value
    ∙ as_many_found c.args.frame.now.slots s.slots c.in-Some.live.items c.in-Some.ensures.0
    ∙ sym (ap (λ (a : AbstractState). length a.ranges) c.requires.there) in
    let judged =
    judged_agreement s t upper least c.as_slice.result.now alike many c.requires.rows c.holds_in.result _ _ _ _ _ c.region.ensures.points
    (c.as_slice-3.ensures.value ∙ ap (λ (a : AbstractState). a.ranges) c.there.view_is)
    (c.as_slice-4.ensures.value ∙ ap (λ (a : AbstractState). a.guards) c.there.view_is)
    (c.as_slice-5.ensures.value ∙ c.compared-theirs.ensures.forms ∙ met)
    (c.as_slice-2.ensures.value ∙ c.compared-ours.ensures.forms ∙ (λ i. c.as_slice.result.now ++ (upper ++ others i)))
    c.holds_in.ensures in
    let same : (t, c.as_slice.result.now) ≡ (state_of f, c.in-Some.live.items) = λ i. (c.requires.there i, c.as_slice.ensures.value i) in
    subst (AgreesOrMisses s f upper least) (sym c.and.ensures)
    (agrees_or_misses s f upper least c.in-Some.live c.holds_in.result c.in-Some.ensures.0 c.in-Some.ensures.1
    (subst (IsAlike s) c.requires.there alike)
    (subst (λ (x : Other). HoldsOrMisses (region_of s) (AgreesAbove s x.0 upper least x.1) c.holds_in.result) same judged))
