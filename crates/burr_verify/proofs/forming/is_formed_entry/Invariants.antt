-- None of the slots so far is live.
use Rattle.std.proofs.Common.{◌<◌, ◌≤◌, ℕ}
use Rattle.burr_container.specs.Views.Refs.{frame_of}
use Rattle.burr_verify.specs.Views.Forming.{IsLive}
use Rattle.burr_verify.proofs.forming.is_formed_entry.Given as goal

abbrev pub invariant-loop-v : goal.invariant-loop-v
invariant-loop-v l = (v : ℕ) → v < l.v → l.parameters ≤ v → ¬ IsLive (frame_of l.frame).slots v
