use Rattle.burr_frames.proofs.Common.RuleLooks.{some_rule_looks, one_rule_looks, few_rule_looks}
use Rattle.burr_frames.proofs.WholeLooks.{all_are_made}
use Rattle.burr_frames.proofs.laws.a_rule_has_so_many_looks.Goals as goal

pub returns : goal.returns
returns c =
    record {
      some = some_rule_looks;
      one = one_rule_looks;
      few = few_rule_looks;
      made = all_are_made c.the_points_are_given.ensures.given;
    }
