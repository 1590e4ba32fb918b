-- Part by part.
use Rattle.burr_io.proofs.Common.Puts.{Puts-more, Puts-fails}
use Rattle.burr_runs.proofs.plan_refusal.PlanRefusal.put.Goals as goal

pub returns-in_err-put_place : goal.returns-in_err-put_place
returns-in_err-put_place g c = Puts-fails _ c.in_err-put_place.ensures c.from_residual.ensures.0

pub returns-in_err-put_names : goal.returns-in_err-put_names
returns-in_err-put_names g c = Puts-more c.in_ok-put_place.ensures (Puts-fails _ c.in_err-put_names.ensures c.from_residual-in_err-put_names.ensures.0)

pub returns-in_err-put_point : goal.returns-in_err-put_point
returns-in_err-put_point g c = Puts-more c.in_ok-put_place.ensures (Puts-more c.in_ok-put_names.ensures (Puts-fails _ c.in_err-put_point.ensures c.from_residual-in_err-put_point.ensures.0))

pub returns : goal.returns
returns g c = Puts-more c.in_ok-put_place.ensures (Puts-more c.in_ok-put_names.ensures (Puts-more c.in_ok-put_point.ensures (c.put_all.ensures.puts)))
