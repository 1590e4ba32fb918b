-- What steps cost, and what is left to spend.
use Rattle.std.proofs.Common.{◌≡◌, ℕ, ◌+◌, ◌-◌, ◌^◌, ◌<◌, ◌≤◌, List, [], ◌∷◌, sym, subst, arith}
use Rattle.std.specs.Prelude.{ℤ, pos, ◌+ℤ◌, ◌-ℤ◌, ◌≤ℤ◌, min}
use Rattle.std.proofs.lemmas.Int.{ints}
use Rattle.burr_voxels.specs.declared.cell.Cell.{Cell}
use Rattle.burr_frames.specs.Rules.FramedPlans.{FramedProcedure, FramedPlan}
use Rattle.burr_state.specs.Rules.Bench.{Activation}
use Rattle.burr_bench.specs.Soundness.Invariant.{AllWait}

-- The costs add up: after one step more

module _ (a w : ℤ) (s l : ℕ) (h : ((a +ℤ w) +ℤ pos s) ≤ℤ pos l) where
  pub sent_cost : (b c : ℤ) → b ≤ℤ (a -ℤ pos 1) → c ≤ℤ b → ((c +ℤ w) +ℤ pos (min (s + 1) (2 ^ 64 - 1))) ≤ℤ pos l
  sent_cost b c e k = omega (arith, ints)

  pub call_cost : (e c : ℤ) → (e +ℤ c) ≡ (a -ℤ pos 1) → ((e +ℤ (c +ℤ w)) +ℤ pos (min (s + 1) (2 ^ 64 - 1))) ≤ℤ pos l
  call_cost e c k = omega (arith, ints)

  pub ret_cost : (c d x r : ℤ) → w ≡ (x +ℤ r) → pos 1 ≤ℤ a → d ≡ x → c ≤ℤ d → ((c +ℤ r) +ℤ pos (min (s + 1) (2 ^ 64 - 1))) ≤ℤ pos l
  ret_cost c d x r e k f g = omega (arith, ints)

  pub within_cost : pos 1 ≤ℤ a → pos 0 ≤ℤ w → s < l
  within_cost k m = omega (arith, ints)

-- what waits costs nothing below zero
pub waiting : (homes : List (List Cell)) (plan : FramedPlan) (n : ℕ) (here : FramedProcedure)
    (parameters : List ℤ) (callers : List Activation) (cost : ℤ)
    → AllWait homes plan n here parameters callers cost → pos 0 ≤ℤ cost
waiting homes plan n here parameters [] cost w =
    subst (λ x. pos 0 ≤ℤ x) (sym w.1) (omega (arith, ints))
waiting homes plan n here parameters (a ∷ callers) cost w =
    plus_above w.1.cost w.2 cost w.4 w.1.enough (waiting homes plan a.procedure w.1.here w.1.own callers w.2 w.3)
  where
    plus_above : (x y z : ℤ) → z ≡ (x +ℤ y) → pos 0 ≤ℤ x → pos 0 ≤ℤ y → pos 0 ≤ℤ z
    plus_above x y z e p q = omega (arith, ints)
