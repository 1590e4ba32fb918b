-- Part by part.
use Rattle.burr_io.proofs.Common.Puts.{Puts-more, Puts-fails}
use Rattle.burr_runs.proofs.plan_refusal.put_pair.Goals as goal

pub returns-in_err-put_all : goal.returns-in_err-put_all
returns-in_err-put_all g c = Puts-fails _ c.in_err-put_all.ensures.puts c.from_residual.ensures.0

pub returns-in_err-put_all-2 : goal.returns-in_err-put_all-2
returns-in_err-put_all-2 g c = Puts-more c.in_ok-put_all.ensures.puts (Puts-fails _ c.in_err-put_all-2.ensures.puts c.from_residual-in_err-put_all-2.ensures.0)

pub returns-in_err-put_all-3 : goal.returns-in_err-put_all-3
returns-in_err-put_all-3 g c = Puts-more c.in_ok-put_all.ensures.puts (Puts-more c.in_ok-put_all-2.ensures.puts (Puts-fails _ c.in_err-put_all-3.ensures.puts c.from_residual-in_err-put_all-3.ensures.0))

pub returns : goal.returns
returns g c = Puts-more c.in_ok-put_all.ensures.puts (Puts-more c.in_ok-put_all-2.ensures.puts (Puts-more c.in_ok-put_all-3.ensures.puts c.put_all-4.ensures.puts))
