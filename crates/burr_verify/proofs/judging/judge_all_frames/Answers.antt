use Rattle.std.proofs.Common.{refl, arith}
use Rattle.std.proofs.lemmas.Result.{err_from_is_err_and}
use Rattle.burr_frames.specs.Rules.FramedPlans.{framed_plan}
use Rattle.burr_frames.proofs.Common.Heres.{lent_is, lent_at}
use Rattle.burr_verify.specs.Rules.Judging.{judging_frames}
use Rattle.burr_verify.proofs.Before.{checks_here, one_framed}
use Rattle.burr_verify.proofs.JudgedOn.{here_at, framed_lent, judged_on, judged_stop, judged_end, past_all}
use Rattle.burr_verify.proofs.judging.judge_all_frames.Goals as goal

pub loop-number-init : goal.loop-number-init
loop-number-init c = λ p is. ((λ well. well), (λ r well. well))

pub returns-in_err-judge_frames : goal.returns-in_err-judge_frames
returns-in_err-judge_frames c =
    let e = err_from_is_err_and c.from_residual.result c.from_residual.ensures.1 in
    let kept = c.args.container.now in
    let n = c.loop-number.number in
    let lent = c.procedure.ensures in
    rw (e.1, e.2)
    (λ p is. (let here = here_at p n (omega (arith, c.loop-number-test.true, c.proc_count-number-end.ensures.plan p is)) in
    judged_stop judging_frames one_framed (λ k x xs rest a h. h) (framed_plan p).procedures n here.0
    (judging_frames 0 (framed_plan p).procedures) _ (checks_here n here.0) here.1
    (framed_lent kept n c.procedure.result here.0 _ _ lent
    (c.in_err-judge_frames.ensures p here.0 (lent_is kept n c.procedure.result p lent is)
    (lent_at (framed_plan p).procedures kept n c.procedure.result here.0 lent here.1))) (c.loop-number.invariant p is)))

pub loop-number-preserved : goal.loop-number-preserved
loop-number-preserved c =
    let kept = c.args.container.now in
    let n = c.loop-number.number in
    let lent = c.procedure.ensures in
    λ p is. (let here = here_at p n (omega (arith, c.loop-number-test.true, c.proc_count-number-end.ensures.plan p is)) in
    judged_on judging_frames one_framed (λ k x xs rest a h. h) (framed_plan p).procedures n here.0
    (judging_frames 0 (framed_plan p).procedures) (checks_here n here.0) here.1
    (framed_lent kept n c.procedure.result here.0 _ _ lent
    (c.in_ok-judge_frames.ensures p here.0 (lent_is kept n c.procedure.result p lent is)
    (lent_at (framed_plan p).procedures kept n c.procedure.result here.0 lent here.1))) (c.loop-number.invariant p is))

pub returns : goal.returns
returns c =
    λ p is. judged_end judging_frames one_framed (λ k x xs rest a h. h) (framed_plan p).procedures c.loop-number.number
    (judging_frames 0 (framed_plan p).procedures)
    (past_all p c.loop-number.number (omega (arith, c.loop-number-test.false, c.proc_count-number-end.ensures.plan p is)))
    refl (c.loop-number.invariant p is)
