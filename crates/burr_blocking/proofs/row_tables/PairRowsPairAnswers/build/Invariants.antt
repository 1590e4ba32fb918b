use Rattle.std.proofs.Common.{◌≡◌, ◌-◌, ◌≤◌, length, vec_len, take}
use Rattle.burr_blocking.specs.Views.Boxes.{row_count_of}
use Rattle.burr_blocking.proofs.Made.{AreMade}
use Rattle.burr_blocking.proofs.row_tables.PairRowsPairAnswers.build.Given as goal

-- the bits of the cells so far have been set
abbrev pub invariant-loop-i : goal.invariant-loop-i
invariant-loop-i l = (l.i ≤ length l.fn.cells) × (vec_len l.rows ≡ row_count_of l.extent) × AreMade l.extent l.rows.items (take l.i l.fn.cells) l.fn.others

abbrev pub decreases-loop-i : goal.decreases-loop-i
decreases-loop-i l = length l.fn.cells - l.i
