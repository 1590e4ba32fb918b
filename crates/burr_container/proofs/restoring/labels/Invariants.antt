use Rattle.burr_container.specs.Views.Lent.{OfLent}
use Rattle.burr_container.proofs.Common.ListsRead.{IsRead}
use Rattle.burr_container.proofs.restoring.labels.Given as goal

-- the first ones are read
abbrev pub invariant-loop-n : goal.invariant-loop-n
invariant-loop-n l = OfLent l.procedure (λ p q. IsRead q.labels l.n l.labels.items)
