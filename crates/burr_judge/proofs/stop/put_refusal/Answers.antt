use Rattle.burr_io.proofs.Common.Puts.{Puts-more, Puts-fails}
use Rattle.burr_judge.proofs.stop.put_refusal.Goals as goal

pub returns-in_err-put-in-Some : goal.returns-in_err-put-in-Some
returns-in_err-put-in-Some g c = rw c.in-Some.is (Puts-fails _ c.in_err-put-in-Some.ensures c.from_residual.ensures.0)

pub returns-in_ok-put-in-Some : goal.returns-in_ok-put-in-Some
returns-in_ok-put-in-Some g c = rw (c.in-Some.is, ← c.as_bytes.ensures.value) (Puts-more c.in_ok-put-in-Some.ensures c.put_all.ensures.puts)
