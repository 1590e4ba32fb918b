-- For crates above: where what stands next leads: the steps that are made, and an answer to each fitting number.
use Rattle.std.proofs.Common.{◌≡◌, ℤ, sym, subst, inl, inr}
use Rattle.burr_code.specs.Instruction.{Instruction}
use Rattle.burr_state.specs.declared.effect.Mode.TheVariants.{Running}
use Rattle.burr_state.specs.Rules.Bench.{BenchState, Setup, BenchProcedure}
use Rattle.burr_state.specs.Rules.Next.{Next, Goes, Asks, Traps}
use Rattle.burr_state.specs.Rules.Questions.{Fits}
use Rattle.burr_state.specs.Rules.Step.{Executes, IsAt, NextIs, TakesAnswer, IsStepFrom}
use Rattle.burr_code.proofs.Common.Checked.{fails_or_ends}
use Rattle.burr_state.proofs.Common.Built.{EndsSo, executes_is_built}

-- what stands next leads on by a step, or by one for each fitting answer, or to a trap
abbrev pub LeadsFrom : Setup → BenchState → Next → Type 0
LeadsFrom setup s (Goes new motion) = IsStepFrom s new
LeadsFrom setup s (Asks low high) = (answer : ℤ) → Fits low high answer → (new : BenchState) × TakesAnswer setup s answer new × IsStepFrom s new
LeadsFrom setup s (Traps trap) = Unit {0}

leads_at : (setup : Setup) (s : BenchState) (here : BenchProcedure) (i : Instruction) (next : Next) → s.mode ≡ Running → IsAt setup s here i → Executes setup here s i next → EndsSo setup here s i next → LeadsFrom setup s next
leads_at setup s here i (Goes new motion) running at rule so = so.step running
leads_at setup s here i (Asks low high) running at rule so = λ answer fits. let new = so.1 answer fits in (new.0, (here, i, low, high, at, rule, fits, new.1), new.2 running)
leads_at setup s here i (Traps trap) running at rule so = tt

pub leads_from : (setup : Setup) (s : BenchState) (next : Next) → s.mode ≡ Running → NextIs setup s next → LeadsFrom setup s next
leads_from setup s next running (inl at) =
    elim (fails_or_ends (executes_is_built setup at.0 s at.1) next at.3).cases [
      | inl trapped ↦ subst (LeadsFrom setup s) (sym trapped.1) tt
      | inr so ↦ leads_at setup s at.0 at.1 next running at.2 at.3 so
    ]
leads_from setup s next running (inr none) = subst (LeadsFrom setup s) (sym none.1) tt
