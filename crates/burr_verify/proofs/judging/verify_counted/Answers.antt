use Rattle.std.proofs.Common.{◌≤◌, length, ap, arith}
use Rattle.burr_assembly.specs.Rules.Homes.{homes_of}
use Rattle.burr_assembly.specs.Rules.Text.{Assembly}
use Rattle.burr_frames.specs.Rules.FramedPlans.{framed_plan}
use Rattle.burr_verify.specs.Views.Judgements.{judgement_of}
use Rattle.burr_verify.proofs.Framings.{framed_exactly}
use Rattle.burr_verify.proofs.Parts.{as_many_homes}
use Rattle.burr_verify.proofs.judging.verify_counted.Goals as goal

pub returns-clause-judged : goal.returns-clause-judged
returns-clause-judged g c =
    λ p is. c.a_plan_has_so_many_looks.ensures.judged _ _ _ _ _ (c.judge_plan.ensures.looked p is)

pub returns-clause-few : goal.returns-clause-few
returns-clause-few g c =
    let a = c.args.looks.now.assembly in
    let same = ap (λ (b : Assembly). length b.pieces) c.assembly.ensures in
    let most = c.an_assembly_has_few_pieces.ensures.few in
    let few : length (homes_of a) ≤ 32 = omega (arith, as_many_homes a, same, most) in
    λ p is. c.a_plan_has_so_many_looks.ensures.few a.name (homes_of a) (framed_plan p) (judgement_of c.judge_plan.result) _ few
    (c.judge_plan.ensures.looked p is)

pub returns-clause-framed : goal.returns-clause-framed
returns-clause-framed g c =
    let a = c.args.looks.now.assembly in
    λ p is. framed_exactly c.args.container.now a.name (homes_of a) p c.judge_plan.result c.a_container_has_a_plan.ensures.plan is
    (c.a_plan_has_so_many_looks.ensures.judged _ _ _ _ _ (c.judge_plan.ensures.looked p is))
