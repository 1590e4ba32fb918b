use Rattle.std.proofs.Common.{◌≡◌, ◌<◌, ℕ, Some}
use Rattle.std.specs.Prelude.{slice_get}
use Rattle.burr_frames.proofs.state.instructions.has_labels.Given as goal

-- the first labels are there
abbrev pub invariant-loop-number : goal.invariant-loop-number
invariant-loop-number l = (k label : ℕ) → k < l.number → slice_get l.labels k ≡ Some label → label < l.count
