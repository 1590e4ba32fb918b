use Rattle.burr_verify.proofs.Looking.{some_looking, one_looking, looking_is_judging}
use Rattle.burr_verify.proofs.FewLooks.{few_looks_in_all}
use Rattle.burr_verify.proofs.laws.a_plan_has_so_many_looks.Goals as goal

pub returns : goal.returns
returns c = record {
  some = some_looking;
  one = one_looking;
  judged = looking_is_judging;
  few = few_looks_in_all;
}
