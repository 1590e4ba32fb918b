use Rattle.burr_io.proofs.Common.Puts.{Puts-more, Puts-fails}
use Rattle.burr_step.proofs.ShownWords.{stack_line-some}
use Rattle.burr_step.proofs.state_text.put_stack.Goals as goal

pub returns-in_err-put_all : goal.returns-in_err-put_all
returns-in_err-put_all g c =
    rw (stack_line-some c.args.machine.now.state _ c.operands-operands.ensures c.if-is_empty.ensures)
    (Puts-fails _ c.in_err-put_all.ensures.puts c.from_residual.ensures.0)

pub returns-in_err-put_numbers : goal.returns-in_err-put_numbers
returns-in_err-put_numbers g c =
    rw (stack_line-some c.args.machine.now.state _ c.operands-operands.ensures c.if-is_empty.ensures)
    (Puts-more c.in_ok-put_all.ensures.puts (Puts-fails _ c.in_err-put_numbers.ensures c.from_residual-in_err-put_numbers.ensures.0))

pub returns : goal.returns
returns g c =
    rw (stack_line-some c.args.machine.now.state _ c.operands-operands.ensures c.if-is_empty.ensures)
    (Puts-more c.in_ok-put_all.ensures.puts (Puts-more c.in_ok-put_numbers.ensures c.put_all-2.ensures.puts))
