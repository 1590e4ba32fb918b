-- The comments are skipped.
use Rattle.std.proofs.Common.{◌∙◌, ap, refl}
use Rattle.std.proofs.lemmas.Result.{IfOk-weaker}
use Rattle.burr_plantext.specs.Rules.Sources.{source_lines}
use Rattle.burr_plantext.specs.Rules.Texts.{lines_read}
use Rattle.burr_plantext.specs.Rules.Writing.{text_of}
use Rattle.burr_plantext.proofs.PlainText.{plan_plain}
use Rattle.burr_plantext.proofs.ReadLines.{plan_same}
use Rattle.burr_plantext.proofs.listing.list_with_places.Goals as goal

pub returns-clause-lines : goal.returns-clause-lines
returns-clause-lines c =
    IfOk-weaker c.list_lines.result _ _ (λ text listed p is. let (s, are, e) = listed p is in (text_of (source_lines s), (s, are, refl), ap lines_read e ∙ plan_same s ∙ ap lines_read (plan_plain s))) c.list_lines.ensures
