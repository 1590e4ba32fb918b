use Rattle.std.proofs.Common.{◌≡◌, ◌++◌, take, drop}
use Rattle.burr_forms.specs.Views.Searching.{sums}
use Rattle.burr_forms.proofs.points.carry.Given as goal

-- the steps so far are added
abbrev pub invariant-loop-place : goal.invariant-loop-place
invariant-loop-place l = l.row ≡ sums (take l.place l.fn.row) l.steps ++ drop l.place l.fn.row
