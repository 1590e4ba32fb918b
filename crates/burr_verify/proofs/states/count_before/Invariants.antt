-- The labels below one number stand before the place, and those from another one on do not.
use Rattle.std.proofs.Common.{◌≡◌, ℕ, ◌<◌, ◌≤◌, ◌-◌}
use Rattle.std.specs.Prelude.{Some, slice_get}
use Rattle.burr_container.specs.Rules.Plans.{Frame}
use Rattle.burr_frames.specs.Views.Here.{OfFramedProcedure}
use Rattle.burr_verify.proofs.states.count_before.Given as goal

abbrev pub invariant-loop-low : goal.invariant-loop-low
invariant-loop-low l = record {
  order : l.low ≤ l.high;
  few : l.high ≤ l.count;
  split : OfFramedProcedure l.procedure (λ plan here. (k : ℕ) (x : ℕ × Frame) → slice_get here.labels k ≡ Some x
      → (k < l.low → x.0 < l.place) × (l.high ≤ k → l.place ≤ x.0));
}

abbrev pub decreases-loop-low : goal.decreases-loop-low
decreases-loop-low l = l.high - l.low
