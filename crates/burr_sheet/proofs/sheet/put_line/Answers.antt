use Rattle.burr_io.proofs.Common.Puts.{Puts-more, Puts-fails}
use Rattle.burr_sheet.specs.Views.SheetUnderWay.{move_line_of}
use Rattle.burr_sheet.proofs.LineWords.{move_line-parts}
use Rattle.burr_sheet.proofs.sheet.put_line.Goals as goal

pub returns-in_err-put_number-clause-puts : goal.returns-in_err-put_number-clause-puts
returns-in_err-put_number-clause-puts g c = rw (move_line-parts _ _ (move_line_of c.args.line c.args.out)) (Puts-fails _ c.in_err-put_number.ensures c.from_residual.ensures.0)

pub returns-in_err-put_all-clause-puts : goal.returns-in_err-put_all-clause-puts
returns-in_err-put_all-clause-puts g c =
    rw (move_line-parts _ _ (move_line_of c.args.line c.args.out))
    (Puts-more c.in_ok-put_number.ensures (Puts-fails _ c.in_err-put_all.ensures.puts c.from_residual-in_err-put_all.ensures.0))

pub returns-in_err-put_number-2-clause-puts : goal.returns-in_err-put_number-2-clause-puts
returns-in_err-put_number-2-clause-puts g c =
    rw (move_line-parts _ _ (move_line_of c.args.line c.args.out))
    (Puts-more c.in_ok-put_number.ensures (Puts-more c.in_ok-put_all.ensures.puts (Puts-fails _ c.in_err-put_number-2.ensures c.from_residual-in_err-put_number-2.ensures.0)))

pub returns-in_err-put-clause-puts : goal.returns-in_err-put-clause-puts
returns-in_err-put-clause-puts g c =
    rw (move_line-parts _ _ (move_line_of c.args.line c.args.out))
    (Puts-more c.in_ok-put_number.ensures (Puts-more c.in_ok-put_all.ensures.puts (Puts-more c.in_ok-put_number-2.ensures
    (Puts-fails _ c.in_err-put.ensures.puts c.from_residual-in_err-put.ensures.0))))

pub returns-clause-puts : goal.returns-clause-puts
returns-clause-puts g c =
    rw (move_line-parts _ _ (move_line_of c.args.line c.args.out))
    (Puts-more c.in_ok-put_number.ensures (Puts-more c.in_ok-put_all.ensures.puts (Puts-more c.in_ok-put_number-2.ensures (Puts-more c.in_ok-put.ensures.puts c.put_steps.ensures))))
