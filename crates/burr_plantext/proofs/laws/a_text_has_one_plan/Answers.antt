use Rattle.burr_plantext.proofs.Texts.TextLaws.{one_plan}
use Rattle.burr_plantext.proofs.laws.a_text_has_one_plan.Goals as goal

pub returns : goal.returns
returns c = one_plan
