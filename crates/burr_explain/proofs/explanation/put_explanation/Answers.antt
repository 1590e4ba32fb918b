use Rattle.burr_io.proofs.Common.Puts.{Puts-more, Puts-fails}
use Rattle.burr_explain.proofs.explanation.put_explanation.Goals as goal

pub returns-in_err-put_heading : goal.returns-in_err-put_heading
returns-in_err-put_heading g c = Puts-fails _ c.in_err-put_heading.ensures c.from_residual.ensures.0

pub returns-in_err-put_paragraph : goal.returns-in_err-put_paragraph
returns-in_err-put_paragraph g c =
    Puts-more c.in_ok-put_heading.ensures (Puts-fails _ c.in_err-put_paragraph.ensures c.from_residual-in_err-put_paragraph.ensures.0)

pub returns-in_err-put_if_any : goal.returns-in_err-put_if_any
returns-in_err-put_if_any g c =
    Puts-more c.in_ok-put_heading.ensures
    (Puts-more c.in_ok-put_paragraph.ensures (Puts-fails _ c.in_err-put_if_any.ensures c.from_residual-in_err-put_if_any.ensures.0))

pub returns-in_err-put_if_any-2 : goal.returns-in_err-put_if_any-2
returns-in_err-put_if_any-2 g c =
    Puts-more c.in_ok-put_heading.ensures
    (Puts-more c.in_ok-put_paragraph.ensures
    (Puts-more c.in_ok-put_if_any.ensures (Puts-fails _ c.in_err-put_if_any-2.ensures c.from_residual-in_err-put_if_any-2.ensures.0)))

pub returns : goal.returns
returns g c =
    Puts-more c.in_ok-put_heading.ensures (Puts-more c.in_ok-put_paragraph.ensures (Puts-more c.in_ok-put_if_any.ensures
    (Puts-more c.in_ok-put_if_any-2.ensures c.put_paragraph-2.ensures)))
