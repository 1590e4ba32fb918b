use Rattle.burr_io.proofs.Common.Puts.{Puts-more, Puts-fails}
use Rattle.burr_program.proofs.commands.judge.put_judged.Goals as goal

pub returns-in_err-put_number : goal.returns-in_err-put_number
returns-in_err-put_number g c = Puts-fails _ c.in_err-put_number.ensures c.from_residual.ensures.0

pub returns-in_err-put_all : goal.returns-in_err-put_all
returns-in_err-put_all g c =
    Puts-more c.in_ok-put_number.ensures (Puts-fails _ c.in_err-put_all.ensures.puts c.from_residual-in_err-put_all.ensures.0)

pub returns-in_err-put_number-2 : goal.returns-in_err-put_number-2
returns-in_err-put_number-2 g c =
    let status = rw c.code.ensures at c.in_err-put_number-2.ensures in
    Puts-more c.in_ok-put_number.ensures (Puts-more c.in_ok-put_all.ensures.puts
    (Puts-fails _ status c.from_residual-in_err-put_number-2.ensures.0))

pub returns-in_err-put_all-2 : goal.returns-in_err-put_all-2
returns-in_err-put_all-2 g c =
    let status = rw c.code.ensures at c.in_ok-put_number-2.ensures in
    Puts-more c.in_ok-put_number.ensures (Puts-more c.in_ok-put_all.ensures.puts (Puts-more status
    (Puts-fails _ c.in_err-put_all-2.ensures.puts c.from_residual-in_err-put_all-2.ensures.0)))

pub returns : goal.returns
returns g c =
    let status = rw c.code.ensures at c.in_ok-put_number-2.ensures in
    Puts-more c.in_ok-put_number.ensures (Puts-more c.in_ok-put_all.ensures.puts (Puts-more status
    (Puts-more c.in_ok-put_all-2.ensures.puts c.put_all-3.ensures.puts)))
