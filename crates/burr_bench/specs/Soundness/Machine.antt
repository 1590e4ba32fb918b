-- What the machine that asks nothing of pieces keeps of itself, so that it meets no trap.
use Rattle.std.specs.Prelude.{◌≡◌, ◌≢◌, ◌⊎◌, ◌≤◌, ℕ, ℤ, Option, Result, Ok, IsTrue}
use Rattle.burr_voxels.specs.declared.direction.Direction.{Direction}
use Rattle.burr_assembly.specs.Rules.Text.{IsAssembly}
use Rattle.burr_assembly.specs.Rules.Homes.{homes_of}
use Rattle.burr_code.specs.Instruction.{Step, Aside}
use Rattle.burr_code.specs.Places.{IsPartOfTray, IsEmptyTray}
use Rattle.burr_container.specs.Rules.Fitting.{is_fitting}
use Rattle.burr_container.specs.Rules.Plans.{Plan}
use Rattle.burr_frames.specs.Rules.FramedPlans.{framed_plan}
use Rattle.burr_verify.specs.Rules.Accepting.{Judged, IsAccepted, MainCosts}
use Rattle.burr_verify.specs.Rules.WellFramed.{IsWellFramed}
use Rattle.burr_state.specs.declared.effect.Mode.TheVariants.{Running}
use Rattle.burr_state.specs.declared.effect.Progress.{Progress}
use Rattle.burr_state.specs.declared.effect.Trap.{Trap}
use Rattle.burr_state.specs.Rules.Bench.{BenchState, BenchProcedure, running, start}
use Rattle.burr_state.specs.Views.Benches.{Benched, benched, setup_of, in_state}
use Rattle.burr_bench.specs.Soundness.Invariant.{IsSafeState}
use Rattle.burr_state.specs.Rules.Next.{Traps}
use Rattle.burr_state.specs.Views.Programs.{plan_program}
use Rattle.burr_state.specs.Laws.SpaceLaws.{IsReached}
use Rattle.burr_bench.specs.Soundness.SafeRuns.{HasEnded}
use Rattle.burr_state.specs.Rules.Space.{AllOnBench, NoOverlapIn, IsFreeGroup, moved_places}
use Rattle.burr_state.specs.Rules.Step.{Called, IsAt, NextIs}

-- A bench that runs an accepted plan: there are a well framed plan, a cut of its code, a state of
-- it before the next instruction and a point at which the bench stands for that state, and its
-- callers wait within the budget; or the run has ended well.
pub record IsSafeBench (b : Benched) : Type 0 where
  pub plan : Plan
  pub fits : IsTrue (is_fitting plan)
  pub is_assembly : IsAssembly b.assembly
  pub framed : IsWellFramed b.assembly.name (homes_of b.assembly) (framed_plan plan)
  pub program_is : b.program ≡ plan_program plan
  pub state_is : IsSafeState (homes_of b.assembly) (framed_plan plan) b.state
      ⊎ HasEnded plan.budget b.state

-- an accepted plan is at its start
abbrev pub StartIsSafe : Type 0
StartIsSafe =
    (j : Judged) (a : IsAccepted j) (state : BenchState)
    → state ≡ start (setup_of (benched j.assembly (plan_program a.plan) state))
    → IsSafeBench (benched j.assembly (plan_program a.plan) state)

-- with an answer or none, a call tells no trap, and the bench stays safe
abbrev pub CallIsSafe : Type 0
CallIsSafe =
    (b : Benched) (answer : Option ℤ) (result : Result Progress Trap) (new : BenchState)
    → IsSafeBench b → Called (setup_of b) b.state answer result new
    → ((told : Progress) × (result ≡ Ok told)) × IsSafeBench (in_state new b)

-- so each state that calls of an accepted plan's bench come to is safe: the run has ended well, or
-- the invariant holds, callers and costs included
abbrev pub EachStateIsSafe : Type 0
EachStateIsSafe =
    (j : Judged) (a : IsAccepted j) (s : BenchState)
    → IsReached (running (homes_of j.assembly) (plan_program a.plan)) s
    → IsSafeBench (benched j.assembly (plan_program a.plan) s)

-- and no state has made more steps than the cost at main's entry frame
abbrev pub CostBoundsSteps : Type 0
CostBoundsSteps =
    (j : Judged) (a : IsAccepted j) (cost : ℕ) (s : BenchState) → MainCosts j cost
    → IsReached (running (homes_of j.assembly) (plan_program a.plan)) s
    → s.steps ≤ cost

-- there is what a call tells and leaves
abbrev pub SomeSafeCall : Type 0
SomeSafeCall =
    (b : Benched) (answer : Option ℤ) → IsSafeBench b
    → (told : Progress) × (new : BenchState) × Called (setup_of b) b.state answer (Ok told) new
    × IsSafeBench (in_state new b)

-- what need not be tested: no trap stands next
abbrev pub NoTrapIsNext : Type 0
NoTrapIsNext =
    (b : Benched) (trap : Trap) → IsSafeBench b → b.state.mode ≡ Running
    → ¬ NextIs (setup_of b) b.state (Traps trap)

-- so where a `step` stands next, the grip has a piece, and after the step all pieces of the tray
-- are on the bench and no two overlap
abbrev pub StepIsSafe : Type 0
StepIsSafe =
    (b : Benched) (here : BenchProcedure) (direction : Direction) → IsSafeBench b
    → b.state.mode ≡ Running → IsAt (setup_of b) b.state here (Step direction)
    → (b.state.grip ≢ 0)
    × AllOnBench (moved_places b.state.grip direction b.state.places) b.state.tray
    × NoOverlapIn (homes_of b.assembly) (moved_places b.state.grip direction b.state.places)
    b.state.tray

-- and where an `aside` stands next, the grip is a part of its tray, the other tray is empty, and
-- the grip is free
abbrev pub AsideIsSafe : Type 0
AsideIsSafe =
    (b : Benched) (here : BenchProcedure) (direction : Direction) (tray : ℕ) → IsSafeBench b
    → b.state.mode ≡ Running → IsAt (setup_of b) b.state here (Aside direction tray)
    → IsPartOfTray b.state.grip b.state.places b.state.tray × IsEmptyTray b.state.places tray
    × IsFreeGroup (homes_of b.assembly) b.state.places b.state.tray b.state.grip direction
