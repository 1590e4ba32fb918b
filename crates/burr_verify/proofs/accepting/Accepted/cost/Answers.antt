use Rattle.std.proofs.Common.{rules, ◌≡◌, FitsSigned, to_z-of_z, w64, sym, subst, ap, ◌∙◌, arith}
use Rattle.std.specs.Prelude.{nat_abs, ◌≤ℤ◌, pos}
use Rattle.std.proofs.lemmas.Int.{ints}
use Rattle.burr_forms.specs.Rules.Forms.{Form}
use Rattle.burr_container.specs.Views.Refs.{frame_of}
use Rattle.burr_frames.specs.Rules.FramedPlans.{framed}
use Rattle.burr_verify.specs.Rules.Accepting.{Judged, judged, MainCosts}
use Rattle.burr_verify.proofs.AcceptingCosts.{EntryCost, has_main, entry_cost, number_of}
use Rattle.burr_verify.proofs.accepting.Accepted.cost.Goals as goal

pub frame-entry-requires-clause-label : goal.frame-entry-requires-clause-label
frame-entry-requires-clause-label g c =
    (has_main (judged c.self.inside.container.now (g.B.Blocking.subject c.self.inside.blocking.now)) c.self.invariant).1

pub overflow_cast-result : goal.overflow_cast-result
overflow_cast-result g c =
    let j = judged c.self.inside.container.now (g.B.Blocking.subject c.self.inside.blocking.now) in
    let is : (framed (frame_of c.frame-entry.result)).cost.constant ≡ c.result.inside.constant =
    sym (ap (λ (f : Form). f.constant) (c.result.view_is ∙ c.cost.ensures.cost)) in
    let cost : EntryCost j c.result.inside.constant =
    subst (λ x. EntryCost j x) is
    (entry_cost j (frame_of c.frame-entry.result) c.self.invariant c.frame-entry.ensures.plan) in
    let fits : FitsSigned w64 c.result.inside.constant = search rules in
    let least : pos 1 ≤ℤ c.result.inside.constant = cost.least in
    let most : c.result.inside.constant ≤ℤ pos 1000000 = cost.most in
    simp to_z-of_z (omega (arith, ints), omega (arith, ints))

pub returns : goal.returns
returns g c =
    let j = judged c.self.inside.container.now (g.B.Blocking.subject c.self.inside.blocking.now) in
    let is : (framed (frame_of c.frame-entry.result)).cost.constant ≡ c.result.inside.constant =
    sym (ap (λ (f : Form). f.constant) (c.result.view_is ∙ c.cost.ensures.cost)) in
    let cost : EntryCost j c.result.inside.constant =
    subst (λ x. EntryCost j x) is
    (entry_cost j (frame_of c.frame-entry.result) c.self.invariant c.frame-entry.ensures.plan) in
    let fits : FitsSigned w64 c.result.inside.constant = search rules in
    simp to_z-of_z
    (subst (λ (k : Judged). MainCosts k (nat_abs c.result.inside.constant)) (ap (λ a. a.judged) c.self.view_is)
    (cost.costs (nat_abs c.result.inside.constant) (number_of c.result.inside.constant cost.least)))
