use Rattle.std.proofs.Common.{◌≡◌, ◌+◌, vec_len}
use Rattle.burr_blocking.proofs.Joins.{AreNextFrom}
use Rattle.burr_blocking.proofs.row_tables.next_rows.Given as goal

-- the next rows from the i-th row on have been found
abbrev pub invariant-loop-i : goal.invariant-loop-i
invariant-loop-i l = (vec_len l.next ≡ l.count + 1) × AreNextFrom l.rows l.next.items l.i
