use Rattle.std.proofs.Common.{◌≡◌, take}
use Rattle.burr_blocking.specs.Views.Bits.{or_both, joined_from}
use Rattle.burr_blocking.proofs.row_tables.join_each.Given as goal

-- the first i of the others have been joined in
abbrev pub invariant-loop-i : goal.invariant-loop-i
invariant-loop-i l = l.rows ≡ joined_from (or_both l.fn.columns l.fn.further) l.fn.first l.fn.rows (take l.i l.others)
