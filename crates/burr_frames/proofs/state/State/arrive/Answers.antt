-- The costs that are compared are the state's and the frame's.
use Rattle.std.proofs.Common.{◌≡◌, ◌∙◌, [], ◌∷◌, ap, subst}
use Rattle.std.specs.Prelude.{option_map}
use Rattle.std.proofs.lemmas.Result.{err_from_is_err_and}
use Rattle.burr_forms.specs.Rules.Forms.{Form}
use Rattle.burr_container.specs.Views.Refs.{frame_of}
use Rattle.burr_frames.specs.Rules.FramedPlans.{framed}
use Rattle.burr_frames.specs.Rules.States.{AbstractState}
use Rattle.burr_frames.specs.Views.ArrivalViews.{AgreesWith, IsMissed}
use Rattle.burr_frames.proofs.Meetings.{arriving_met, arriving_missed}
use Rattle.burr_frames.proofs.state.State.arrive.Goals as goal

abbrev cost_of : AbstractState → Form
cost_of s = s.cost

abbrev Costs : Type 0
Costs = Form × Form

pub returns-in_err-agreed-clause-verdict : goal.returns-in_err-agreed-clause-verdict
returns-in_err-agreed-clause-verdict c =
    let s = c.args.self.now in
    let f = framed (frame_of c.args.frame.now) in
    let point = option_map (λ point. point.items) c.in_err-agreed.field-0.0.point in
    let here : c.self.inside.cost ≡ s.cost = ap cost_of c.self.view_is in
    let there : c.there.inside.cost ≡ f.cost = ap cost_of (c.there.view_is ∙ c.of-there.ensures) in
    let same : (c.self.inside.cost, c.there.inside.cost) ≡ (s.cost, f.cost) = λ i. (here i, there i) in
    let missed = subst (λ (x : Costs). IsMissed s f (x.0 ∷ []) (x.1 ∷ []) point) same c.in_err-agreed.ensures in
    let failed = err_from_is_err_and c.from_residual.result c.from_residual.ensures.1 in
    rw (failed.1, failed.2) (arriving_missed s f point missed)

pub returns-clause-verdict : goal.returns-clause-verdict
returns-clause-verdict c =
    let s = c.args.self.now in
    let f = framed (frame_of c.args.frame.now) in
    let forms = c.in_ok-agreed.field-0.items in
    let here : c.self.inside.cost ≡ s.cost = ap cost_of c.self.view_is in
    let there : c.there.inside.cost ≡ f.cost = ap cost_of (c.there.view_is ∙ c.of-there.ensures) in
    let same : (c.self.inside.cost, c.there.inside.cost) ≡ (s.cost, f.cost) = λ i. (here i, there i) in
    arriving_met s f forms
    (subst (λ (x : Costs). AgreesWith s f (x.0 ∷ []) (x.1 ∷ []) forms) same c.in_ok-agreed.ensures.0)
