use Rattle.std.proofs.Common.{length, ◌≡◌, ◌+◌, ℕ, List, ap, subst, ◌∙◌, arith}
use Rattle.std.proofs.lemmas.Result.{err_from_is_err_and}
use Rattle.burr_voxels.specs.declared.cell.Cell.{Cell}
use Rattle.burr_assembly.specs.Rules.Homes.{homes_of}
use Rattle.burr_blocking.specs.Rules.Counted.{Counted, HasCounted}
use Rattle.burr_blocking.proofs.Common.Counts.{none_more, both_more}
use Rattle.burr_frames.specs.Rules.FramedPlans.{FramedProcedure, FramedPlan, framed_plan}
use Rattle.burr_verify.specs.Views.LookViews.{LooksOn, LooksStop}
use Rattle.burr_verify.specs.Rules.Pass.{Judgement, Refuses, Stage, pass_start}
use Rattle.burr_verify.specs.Rules.PassLooks.{LookedPass}
use Rattle.burr_frames.specs.declared.rule.Rule.TheVariants as rules
use Rattle.burr_verify.specs.Views.Judgements.{failed_check}
use Rattle.burr_verify.specs.Views.Refusals.{plain_refusal}
use Rattle.burr_verify.specs.declared.refusal.Refusal.{Refusal}
use Rattle.burr_verify.proofs.LookedOn.{looks_both}
use Rattle.burr_verify.proofs.Stages.{code_read, before_end, at_end, well_ended, fallen_off}
use Rattle.burr_verify.proofs.passing.judge_code.Goals as goal

module _ (homes : List (List Cell)) (plan : FramedPlan) (n : ℕ) (here : FramedProcedure) where
  -- what follows the looks so far, and ends
  ends_by : (from to : Stage) (j : Judgement) (old mid new : Counted)
      → HasCounted (LooksOn homes plan n here from to) old mid
      → HasCounted (LookedPass homes plan n here to j) mid new
      → HasCounted (LookedPass homes plan n here from j) old new
  ends_by from to j old mid new (a, on, e) (b, pass, f) =
      (a + b, on j b pass, both_more old mid new a b e f)

  goes_by : (from between to : Stage) (old mid new : Counted)
      → HasCounted (LooksOn homes plan n here from between) old mid
      → HasCounted (LooksOn homes plan n here between to) mid new
      → HasCounted (LooksOn homes plan n here from to) old new
  goes_by from between to old mid new (a, on, e) (b, then, f) =
      (a + b, looks_both homes plan n here from between to a b on then, both_more old mid new a b e f)

  by_none : (from : Stage) (j : Judgement) (looks : Counted) → LookedPass homes plan n here from j 0
      → HasCounted (LookedPass homes plan n here from j) looks looks
  by_none from j looks pass = (0, pass, none_more looks)

  on_by_none : (from to : Stage) (looks : Counted) → LooksOn homes plan n here from to 0
      → HasCounted (LooksOn homes plan n here from to) looks looks
  on_by_none from to looks on = (0, on, none_more looks)

-- the same of homes that are these
stopped_like : (plan : FramedPlan) (n : ℕ) (here : FramedProcedure) (from : Stage) (r : Refusal) (mid new : Counted)
    (hs homes : List (List Cell)) → hs ≡ homes → HasCounted (λ k. LooksStop hs plan n here from r k) mid new
    → HasCounted (LookedPass homes plan n here from (Refuses (failed_check r))) mid new
stopped_like plan n here from r mid new hs homes same counted =
    subst (λ (xs : List (List Cell)). HasCounted (λ k. LooksStop xs plan n here from r k) mid new) same counted

went_like : (plan : FramedPlan) (n : ℕ) (here : FramedProcedure) (from to : Stage) (mid new : Counted)
    (hs homes : List (List Cell)) → hs ≡ homes → HasCounted (λ k. LooksOn hs plan n here from to k) mid new
    → HasCounted (LooksOn homes plan n here from to) mid new
went_like plan n here from to mid new hs homes same counted =
    subst (λ (xs : List (List Cell)). HasCounted (λ k. LooksOn xs plan n here from to k) mid new) same counted

pub returns-in_err-enter-clause-passed : goal.returns-in_err-enter-clause-passed
returns-in_err-enter-clause-passed g c =
    let e = err_from_is_err_and c.from_residual.result c.from_residual.ensures.1 in
    rw (e.1, e.2)
    (λ p here kept at. (let code = code_read c.args.procedure.container.now c.args.procedure.number c.code-size.result.now c.code-size.ensures.plan p here kept at in
    let homes = homes_of c.args.looks.now.assembly in
    let so_far = c.loop-pc.invariant.0 p here kept at in
    ends_by homes (framed_plan p) c.args.procedure.number here pass_start _ _ c.args.looks.now c.loop-pc.looks c.loop-pc.looks so_far.0
    (by_none homes (framed_plan p) c.args.procedure.number here _ _ c.loop-pc.looks
    (c.in_err-enter.ensures.passes homes p here kept at
    (before_end c.code-size.result.now here.code c.loop-pc.pc code c.loop-pc-test.true)))))

pub returns-in_err-next-clause-passed : goal.returns-in_err-next-clause-passed
returns-in_err-next-clause-passed g c =
    let e = err_from_is_err_and c.from_residual-in_err-next.result c.from_residual-in_err-next.ensures.1 in
    rw (e.1, e.2)
    (λ p here kept at. (let code = code_read c.args.procedure.container.now c.args.procedure.number c.code-size.result.now c.code-size.ensures.plan p here kept at in
    let homes = homes_of c.args.looks.now.assembly in
    let so_far = c.loop-pc.invariant.0 p here kept at in
    let same = ap homes_of c.loop-pc.invariant.5 in
    let entered = c.in_ok-enter.ensures.passes homes p here kept at (before_end c.code-size.result.now here.code c.loop-pc.pc code c.loop-pc-test.true) in
    ends_by homes (framed_plan p) c.args.procedure.number here pass_start _ _ c.args.looks.now c.loop-pc.looks c.judge_at.new.looks so_far.0
    (ends_by homes (framed_plan p) c.args.procedure.number here _ _ _ c.loop-pc.looks c.loop-pc.looks c.judge_at.new.looks
    (on_by_none homes (framed_plan p) c.args.procedure.number here _ _ c.loop-pc.looks entered.2)
    (stopped_like (framed_plan p) c.args.procedure.number here _ _ c.loop-pc.looks c.judge_at.new.looks _ _ same (c.in_err-next.ensures.passes entered.0 entered.1 p here kept at)))))

pub loop-pc-preserved : goal.loop-pc-preserved
loop-pc-preserved g c = (
  (λ p here kept at. (let code = code_read c.args.procedure.container.now c.args.procedure.number c.code-size.result.now c.code-size.ensures.plan p here kept at in
      let homes = homes_of c.args.looks.now.assembly in
      let so_far = c.loop-pc.invariant.0 p here kept at in
      let same = ap homes_of c.loop-pc.invariant.5 in
      let entered = c.in_ok-enter.ensures.passes homes p here kept at (before_end c.code-size.result.now here.code c.loop-pc.pc code c.loop-pc-test.true) in (
        goes_by homes (framed_plan p) c.args.procedure.number here pass_start _ _ c.args.looks.now c.loop-pc.looks c.judge_at.new.looks so_far.0
            (goes_by homes (framed_plan p) c.args.procedure.number here _ _ _ c.loop-pc.looks c.loop-pc.looks c.judge_at.new.looks
            (on_by_none homes (framed_plan p) c.args.procedure.number here _ _ c.loop-pc.looks entered.2)
            (went_like (framed_plan p) c.args.procedure.number here _ _ c.loop-pc.looks c.judge_at.new.looks _ _ same (c.in_ok-next.ensures.passes entered.0 entered.1 p here kept at))),
        c.in_ok-next.ensures.within p here kept at,
      ))),
  omega (arith, c.in_ok-next.ensures.after),
  (let below = c.loop-pc-test.true in let short = c.code-size.ensures.short in omega (arith, below, short)),
  c.in_ok-next.ensures.points,
  (let few = c.in_ok-next.ensures.few in let so_far = c.loop-pc.invariant.4 in let on = c.in_ok-next.ensures.after in omega (arith, few, so_far, on)),
  c.in_ok-next.ensures.same ∙ c.loop-pc.invariant.5,
)

pub returns-in-None-clause-passed : goal.returns-in-None-clause-passed
returns-in-None-clause-passed g c = λ p here kept at.
    (let code = code_read c.args.procedure.container.now c.args.procedure.number c.code-size.result.now c.code-size.ensures.plan p here kept at in
    let homes = homes_of c.args.looks.now.assembly in
    let so_far = c.loop-pc.invariant.0 p here kept at in
    ends_by homes (framed_plan p) c.args.procedure.number here pass_start _ _ c.args.looks.now c.loop-pc.looks c.loop-pc.looks so_far.0
    (by_none homes (framed_plan p) c.args.procedure.number here _ _ c.loop-pc.looks
    (well_ended homes (framed_plan p) c.args.procedure.number here c.loop-pc.last c.loop-pc.pc c.loop-pc.state c.in-None.is
    (at_end c.code-size.result.now here.code c.loop-pc.pc code (omega (arith, c.loop-pc-test.false)) so_far.1))))

pub returns-in-Some-clause-passed : goal.returns-in-Some-clause-passed
returns-in-Some-clause-passed g c = λ p here kept at.
    (let code = code_read c.args.procedure.container.now c.args.procedure.number c.code-size.result.now c.code-size.ensures.plan p here kept at in
    let homes = homes_of c.args.looks.now.assembly in
    let so_far = c.loop-pc.invariant.0 p here kept at in
    ends_by homes (framed_plan p) c.args.procedure.number here pass_start _ _ c.args.looks.now c.loop-pc.looks c.loop-pc.looks so_far.0
    (by_none homes (framed_plan p) c.args.procedure.number here _ _ c.loop-pc.looks
    (fallen_off homes (framed_plan p) c.args.procedure.number here c.loop-pc.last c.loop-pc.pc c.loop-pc.state c.in-Some.field-0 c.plain.result c.in-Some.is
    (at_end c.code-size.result.now here.code c.loop-pc.pc code (omega (arith, c.loop-pc-test.false)) so_far.1) (c.plain.ensures ∙ ap (λ (k : ℕ). plain_refusal k c.loop-pc.last rules.UnendedCode) c.number.ensures.number))))

pub returns-in-None-clause-few : goal.returns-in-None-clause-few
returns-in-None-clause-few g c =
    let here = c.requires.framed.1 in
    let kept = c.requires.framed.2 in
    let at = c.requires.framed.3 in
    let code = code_read c.args.procedure.container.now c.args.procedure.number c.code-size.result.now c.code-size.ensures.plan c.requires.framed.0 here kept at in
    let within = (c.loop-pc.invariant.0 c.requires.framed.0 here kept at).1 in
    let short = c.code-size.ensures.short in
    let few = c.loop-pc.invariant.4 in
    omega (arith, ap (length {A = ℕ}) code, within, short, few)

pub returns-in-Some-clause-few : goal.returns-in-Some-clause-few
returns-in-Some-clause-few g c =
    let here = c.requires.framed.1 in
    let kept = c.requires.framed.2 in
    let at = c.requires.framed.3 in
    let code = code_read c.args.procedure.container.now c.args.procedure.number c.code-size.result.now c.code-size.ensures.plan c.requires.framed.0 here kept at in
    let within = (c.loop-pc.invariant.0 c.requires.framed.0 here kept at).1 in
    let short = c.code-size.ensures.short in
    let few = c.loop-pc.invariant.4 in
    omega (arith, ap (length {A = ℕ}) code, within, short, few)
