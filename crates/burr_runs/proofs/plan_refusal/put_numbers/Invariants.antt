-- The numbers that remain are still to be put.
use Rattle.std.proofs.Common.{drop}
use Rattle.burr_io.proofs.Common.Puts.{Remains}
use Rattle.burr_runs.specs.Rules.Verdicts.{numbers_part}
use Rattle.burr_runs.proofs.plan_refusal.put_numbers.Given as goal

abbrev pub invariant-loop-number : goal.invariant-loop-number
invariant-loop-number g l = Remains g.W.Sink l.fn.sink l.sink (numbers_part l.numbers) (numbers_part (drop l.number-index l.numbers))
