use Rattle.std.proofs.Common.{take}
use Rattle.burr_blocking.specs.Views.Tables.{SetsMarks}
use Rattle.burr_blocking.proofs.cell_tables.mark.Given as goal

-- the marks at the places so far have been set
abbrev pub invariant-loop-place : goal.invariant-loop-place
invariant-loop-place l = SetsMarks l.fn.marks l.marks l.first (take l.place-index l.places)
