-- Something stands next at each state.
use Rattle.std.proofs.Common.{◌⊎◌, inl, inr, refl, subst}
use Rattle.std.specs.Prelude.{slice_get}
use Rattle.burr_text.proofs.Common.Decisions.{Decided}
use Rattle.burr_code.specs.Instruction.{Instruction, StandsAt}
use Rattle.burr_code.proofs.Common.Reading.{stands_or_none}
use Rattle.burr_state.specs.declared.effect.Trap.TheVariants.{BadCode}
use Rattle.burr_state.specs.Rules.Bench.{BenchState, Setup, BenchProcedure}
use Rattle.burr_state.specs.Rules.Next.{Next, Traps}
use Rattle.burr_state.specs.Rules.Step.{NextIs, IsAt, Runs}
use Rattle.burr_state.specs.Laws.RunLaws.{SomeNext}
use Rattle.burr_code.proofs.Common.Conditions.{decide_found, one_in_list}
use Rattle.burr_state.proofs.Common.Existence.Executions.{some_execution}

-- a state stands at an instruction, or at none
at_some_or_none : (setup : Setup) (s : BenchState) → ((here : BenchProcedure) × (i : Instruction) × IsAt setup s here i) ⊎ ((here : BenchProcedure) (i : Instruction) → ¬ IsAt setup s here i)
at_some_or_none setup s = by_procedure (decide_found (slice_get setup.procedures s.running.procedure))
  where
    stands_here : (here other : BenchProcedure) (i : Instruction) → Runs setup s here → IsAt setup s other i → StandsAt here.code s.running.pc i
    stands_here here other i runs at = subst (λ (there : BenchProcedure). StandsAt there.code s.running.pc i) (one_in_list setup.procedures s.running.procedure other here at.0 runs) at.1

    by_instruction : (here : BenchProcedure) → Runs setup s here → ((i : Instruction) × StandsAt here.code s.running.pc i) ⊎ ((i : Instruction) → ¬ StandsAt here.code s.running.pc i)
        → ((here : BenchProcedure) × (i : Instruction) × IsAt setup s here i) ⊎ ((here : BenchProcedure) (i : Instruction) → ¬ IsAt setup s here i)
    by_instruction here runs (inl found) = inl (here, found.0, (runs, found.1))
    by_instruction here runs (inr none) = inr (λ other i at. none i (stands_here here other i runs at))

    by_procedure : Decided ((here : BenchProcedure) × Runs setup s here) → ((here : BenchProcedure) × (i : Instruction) × IsAt setup s here i) ⊎ ((here : BenchProcedure) (i : Instruction) → ¬ IsAt setup s here i)
    by_procedure (inl found) = by_instruction found.0 found.1 (stands_or_none found.0.code s.running.pc)
    by_procedure (inr none) = inr (λ here i at. none (here, at.0))

pub some_next : SomeNext
some_next setup s = by_place (at_some_or_none setup s)
  where
    by_place : ((here : BenchProcedure) × (i : Instruction) × IsAt setup s here i) ⊎ ((here : BenchProcedure) (i : Instruction) → ¬ IsAt setup s here i) → (next : Next) × NextIs setup s next
    by_place (inl at) = let next = some_execution setup at.0 s at.1 in (next.0, inl (at.0, at.1, at.2, next.1))
    by_place (inr none) = (Traps BadCode, inr (none, refl))
