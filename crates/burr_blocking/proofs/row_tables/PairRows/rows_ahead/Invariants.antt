use Rattle.burr_blocking.proofs.Sets.{AreSoFar}
use Rattle.burr_blocking.proofs.row_tables.PairRows.rows_ahead.Given as goal

-- the rows at the numbers of units so far have been joined
abbrev pub invariant-loop-units : goal.invariant-loop-units
invariant-loop-units l = AreSoFar l.self.extent l.self.rows.items l.from l.direction l.units l.ahead
