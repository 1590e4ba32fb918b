use Rattle.burr_plantext.proofs.Texts.FitsPlan.{plan_fits}
use Rattle.burr_plantext.proofs.laws.a_text_stands_for_a_plan_within_the_format.Goals as goal

pub returns : goal.returns
returns c = plan_fits
