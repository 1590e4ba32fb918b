-- Without places the text is that of the lines.
use Rattle.std.proofs.Common.{◌∙◌}
use Rattle.std.proofs.lemmas.Result.{IfOk-weaker}
use Rattle.burr_plantext.proofs.PlainText.{plan_plain}
use Rattle.burr_plantext.proofs.listing.list.Goals as goal

pub returns : goal.returns
returns c =
    IfOk-weaker c.list_lines.result _ _ (λ text listed p is. let (s, are, e) = listed p is in (s, are, e ∙ plan_plain s)) c.list_lines.ensures
