-- A plan has one judgement: nothing is wrong where it is well framed, and a refusal is the first check that fails.
use Rattle.burr_verify.proofs.Looking.{judging_is_one}
use Rattle.burr_verify.proofs.VerifyLaws.{judging_is_framing, judging_refuses}
use Rattle.burr_verify.proofs.laws.a_plan_is_judged_in_one_way.Goals as goal

pub returns : goal.returns
returns c = record { one = judging_is_one; framed = judging_is_framing; first = judging_refuses }
