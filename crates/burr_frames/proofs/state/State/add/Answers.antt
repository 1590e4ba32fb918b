-- The sum takes the place of the two operands.
use Rattle.std.proofs.Common.{drop, inr, subst}
use Rattle.burr_forms.specs.Rules.Forms.{Form}
use Rattle.burr_frames.specs.Rules.NumberRules.{result_rule}
use Rattle.burr_frames.specs.Views.Breaks.{next_verdict}
use Rattle.burr_frames.proofs.state.State.add.Goals as goal

pub returns-clause-verdict : goal.returns-clause-verdict
returns-clause-verdict c =
    let s = c.args.self.now in
    let v = next_verdict c.put_result.new.self c.put_result.result in
    let put = subst (λ (form : Form). result_rule s form (drop 2 s.operands) v) c.in_ok-sum.ensures.0 c.put_result.ensures.verdict in
    inr (_, c.in_ok-upper.ensures.two.1, put)
