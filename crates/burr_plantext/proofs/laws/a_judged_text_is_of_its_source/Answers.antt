use Rattle.burr_plantext.proofs.Texts.TextLaws.{judged_text}
use Rattle.burr_plantext.proofs.laws.a_judged_text_is_of_its_source.Goals as goal

pub returns : goal.returns
returns c = judged_text
