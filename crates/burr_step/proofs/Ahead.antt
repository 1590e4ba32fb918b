-- What stands next: a motion, a question, the end, or a step that moves no piece.
use Rattle.std.proofs.Common.{◌≡◌, ℕ, Option, Some, None, Ok, sym, subst, ◌∙◌, inl, inr}
use Rattle.std.proofs.lemmas.Option.{same_Some}
use Rattle.burr_code.specs.Instruction.{Instruction, Aside, StandsAt}
use Rattle.burr_code.proofs.Common.Reading.{one_stands_at}
use Rattle.burr_state.specs.declared.effect.Motion.{Motion}
use Rattle.burr_state.specs.declared.effect.Progress.TheVariants as progress
use Rattle.burr_state.specs.Rules.Bench.{BenchProcedure, BenchState, Setup}
use Rattle.burr_state.specs.Rules.Next.{Next, Goes, Asks, Traps}
use Rattle.burr_state.specs.Rules.Step.{Called, Executes, IsAt, NextIs}
use Rattle.burr_code.proofs.Common.Checked.{fails_or_ends}
use Rattle.burr_state.proofs.Common.Built.{AsksBy, EndsSo, executes_is_built, motion_by}
use Rattle.burr_state.proofs.Common.StepCalls.{next_where_went}
use Rattle.burr_step.specs.Rules.Moves.{GoesAsideTo, Rests}

-- what stands next by an instruction, but for a trap: it goes on by its motion or without one, or asks
abbrev pub Tells : BenchState → Instruction → Next → Type 0
Tells s i (Goes new motion) = (motion ≡ motion_by s i) × (¬ AsksBy i)
Tells s i (Asks low high) = AsksBy i
Tells s i (Traps trap) = Unit {0}

tells_so : (setup : Setup) (here : BenchProcedure) (s : BenchState) (i : Instruction) (next : Next) → EndsSo setup here s i next → Tells s i next
tells_so setup here s i (Goes new motion) so = (so.motion_is, so.unasked)
tells_so setup here s i (Asks low high) so = so.0
tells_so setup here s i (Traps trap) so = tt

tells_by_rule : (setup : Setup) (here : BenchProcedure) (s : BenchState) (i : Instruction) (next : Next) → Executes setup here s i next → Tells s i next
tells_by_rule setup here s i next rule = elim (fails_or_ends (executes_is_built setup here s i) next rule).cases [
  | inl trapped ↦ subst (Tells s i) (sym trapped.1) tt
  | inr so ↦ tells_so setup here s i next so
]

-- the same of the instruction at which a state stands
pub tells_at : (setup : Setup) (s : BenchState) (here : BenchProcedure) (i : Instruction) (next : Next) → IsAt setup s here i → NextIs setup s next → Tells s i next
tells_at setup s here i next at (inl (there, j, also, rule)) =
    let runs : there ≡ here = same_Some there here (sym also.0 ∙ at.0) in
    let stands = subst (λ (p : BenchProcedure). StandsAt p.code s.running.pc j) runs also.1 in
    let same = one_stands_at here.code s.running.pc j i stands at.1 in
    subst (λ (k : Instruction). Tells s k next) same (tells_by_rule setup there s j next rule)
tells_at setup s here i next at (inr (none, traps)) = absurd (none here i at)

-- a step that is made there without an answer makes its motion
pub went_at : (setup : Setup) (s new : BenchState) (here : BenchProcedure) (i : Instruction) (motion : Option Motion) → IsAt setup s here i
    → Called setup s None (Ok (progress.Went motion)) new → (motion ≡ motion_by s i) × (¬ AsksBy i)
went_at setup s new here i motion at called = tells_at setup s here i (Goes new motion) at (next_where_went setup s new motion called)

-- so the run rests where an aside stands next
pub aside_rests : (setup : Setup) (s : BenchState) (tray : ℕ) → GoesAsideTo setup s tray → Rests setup s
aside_rests setup s tray (here, direction, at) new called = absurd (none_some (went_at setup s new here (Aside direction tray) None at called).0)
  where
    none_some : {m : Motion} → None ≡ Some m → ⊥
    none_some e = cc
