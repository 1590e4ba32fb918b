use Rattle.std.proofs.Common.{rules, ◌≡◌, true, false, [], FitsSigned, to_z-of_z, w64, sym, subst, ap, ◌∙◌, arith}
use Rattle.std.specs.Prelude.{int_lt}
use Rattle.burr_forms.specs.Rules.Forms.{Form, value}
use Rattle.burr_container.specs.Views.Refs.{frame_of}
use Rattle.burr_frames.specs.declared.rule.Rule.TheVariants as numbers
use Rattle.burr_frames.specs.Rules.FramedPlans.{framed, framed_plan}
use Rattle.burr_frames.specs.Rules.Starts.{start_state}
use Rattle.burr_frames.specs.Rules.States.{AbstractState}
use Rattle.burr_frames.specs.Rules.Arrival.{Meets}
use Rattle.burr_frames.proofs.Common.Heres.{lent_is, lent_at}
use Rattle.burr_verify.specs.declared.refusal.Refusal.{Refusal}
use Rattle.burr_verify.specs.Rules.Judging.{judging_start}
use Rattle.burr_verify.specs.Rules.Pass.{Refuses}
use Rattle.burr_verify.specs.Rules.Judging.{nothing}
use Rattle.burr_verify.specs.Views.Judgements.{failed_check}
use Rattle.burr_verify.proofs.Beginnings.{meets_where_ok, misses_where_err, has_entry, start_lacks_entry, start_misses, start_too_dear, start_holds, cost_nowhere, is_dear, is_paid}
use Rattle.burr_verify.proofs.judging.judge_start.Goals as goal

pub returns-then-label_count-eq0 : goal.returns-then-label_count-eq0
returns-then-label_count-eq0 c =
    let kept = c.args.container.now in
    let main = c.procedure-main.result in
    let lent = c.procedure-main.ensures in
    λ p homes is many.
    subst (λ (r : Refusal). judging_start homes (framed_plan p) nothing (Refuses (failed_check r))) (sym c.plain.ensures)
    (start_lacks_entry homes p (c.a_container_has_a_plan.ensures.procedures p is)
    (λ q e. sym (c.label_count.ensures.plan p q (lent_is kept 0 main p lent is) (lent_at p.procedures kept 0 main q lent e)) ∙ c.if-label_count-eq0.true))

pub returns-then-is_err : goal.returns-then-is_err
returns-then-is_err c =
    let kept = c.args.container.now in
    let main = c.procedure-main.result in
    let lent = c.procedure-main.ensures in
    λ p homes is many.
    let f = frame_of c.frame-entry.result in
    let entry =
    has_entry p f (c.a_container_has_a_plan.ensures.procedures p is)
    (λ q e. (let some = c.label_count.ensures.plan p q (lent_is kept 0 main p lent is) (lent_at p.procedures kept 0 main q lent e) in omega (arith, c.if-label_count-eq0.false, some)))
    (λ q e l at. c.frame-entry.ensures.plan p q (lent_is kept 0 main p lent is) (lent_at p.procedures kept 0 main q lent e) l at) in
    let misses =
    misses_where_err c.at_home.result (framed f) numbers.EntryMissed c.meets_entry.result c.meets_entry.ensures
    (sym c.is_err.ensures.value ∙ c.if-is_err.true) in
    subst (λ (r : Refusal). judging_start homes (framed_plan p) nothing (Refuses (failed_check r))) (sym c.plain-then-is_err.ensures)
    (start_misses homes (framed_plan p) (framed f) entry
    (subst (λ (s : AbstractState). ¬ Meets s (framed f)) (c.at_home.ensures homes many) misses))

pub returns-then-from-cost : goal.returns-then-from-cost
returns-then-from-cost c =
    let kept = c.args.container.now in
    let main = c.procedure-main.result in
    let lent = c.procedure-main.ensures in
    λ p homes is many.
    let f = frame_of c.frame-entry.result in
    let entry =
    has_entry p f (c.a_container_has_a_plan.ensures.procedures p is)
    (λ q e. (let some = c.label_count.ensures.plan p q (lent_is kept 0 main p lent is) (lent_at p.procedures kept 0 main q lent e) in omega (arith, c.if-label_count-eq0.false, some)))
    (λ q e l at. c.frame-entry.ensures.plan p q (lent_is kept 0 main p lent is) (lent_at p.procedures kept 0 main q lent e) l at) in
    let meets =
    meets_where_ok c.at_home.result (framed f) numbers.EntryMissed c.meets_entry.result c.meets_entry.ensures
    (sym c.is_err.ensures.value ∙ c.if-is_err.false) in
    let at_home : Meets (start_state homes) (framed f) =
    subst (λ (s : AbstractState). Meets s (framed f)) (c.at_home.ensures homes many) meets in
    let given : FitsSigned w64 c.from.result = search rules in
    let read : FitsSigned w64 c.cost-2.inside.constant = search rules in
    let cost =
    cost_nowhere (framed f).cost c.cost-2.inside.constant
    (ap (λ (g : Form). g.constant) (c.cost-2.view_is ∙ c.cost.ensures.cost)) in
    let less : int_lt c.from.result c.cost-2.inside.constant ≡ true = simp to_z-of_z at c.if-from-cost.true in
    subst (λ (r : Refusal). judging_start homes (framed_plan p) nothing (Refuses (failed_check r))) (sym c.plain-then-from-cost.ensures)
    (start_too_dear homes (framed_plan p) (framed f) entry at_home
    (is_dear (value [] (framed f).cost) c.cost-2.inside.constant c.from.result c.header.result.budget p.budget less cost
    c.from.ensures (c.header.ensures.plan p is).budget))

pub returns : goal.returns
returns c =
    let kept = c.args.container.now in
    let main = c.procedure-main.result in
    let lent = c.procedure-main.ensures in
    λ p homes is many.
    let f = frame_of c.frame-entry.result in
    let entry =
    has_entry p f (c.a_container_has_a_plan.ensures.procedures p is)
    (λ q e. (let some = c.label_count.ensures.plan p q (lent_is kept 0 main p lent is) (lent_at p.procedures kept 0 main q lent e) in omega (arith, c.if-label_count-eq0.false, some)))
    (λ q e l at. c.frame-entry.ensures.plan p q (lent_is kept 0 main p lent is) (lent_at p.procedures kept 0 main q lent e) l at) in
    let meets =
    meets_where_ok c.at_home.result (framed f) numbers.EntryMissed c.meets_entry.result c.meets_entry.ensures
    (sym c.is_err.ensures.value ∙ c.if-is_err.false) in
    let at_home : Meets (start_state homes) (framed f) =
    subst (λ (s : AbstractState). Meets s (framed f)) (c.at_home.ensures homes many) meets in
    let given : FitsSigned w64 c.from.result = search rules in
    let read : FitsSigned w64 c.cost-2.inside.constant = search rules in
    let cost =
    cost_nowhere (framed f).cost c.cost-2.inside.constant
    (ap (λ (g : Form). g.constant) (c.cost-2.view_is ∙ c.cost.ensures.cost)) in
    let less : int_lt c.from.result c.cost-2.inside.constant ≡ false = simp to_z-of_z at c.if-from-cost.false in
    start_holds homes (framed_plan p) (framed f) entry at_home
    (is_paid (value [] (framed f).cost) c.cost-2.inside.constant c.from.result c.header.result.budget p.budget less cost
    c.from.ensures (c.header.ensures.plan p is).budget)
