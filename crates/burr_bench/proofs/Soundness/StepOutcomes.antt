-- What a step of the bench comes to, by the verdict of the instruction's rule.
use Rattle.std.specs.Prelude.{◌≡◌, ◌⊎◌, ℕ, ◌+◌, ◌<◌, ℤ, pos, ◌-ℤ◌, ◌≤ℤ◌, length, Option, None, get_or}
use Rattle.burr_code.specs.Instruction.{Instruction, spelled}
use Rattle.burr_forms.specs.Rules.Forms.{Point, value}
use Rattle.burr_container.specs.Rules.Plans.{Frame}
use Rattle.burr_frames.specs.Rules.FramedPlans.{FramedProcedure}
use Rattle.burr_frames.specs.Rules.States.{AbstractState, state_of}
use Rattle.burr_frames.specs.Rules.Verdicts.{Verdict, FallsThrough}
use Rattle.burr_verify.specs.Rules.WellFramed.{IsLabelled}
use Rattle.burr_state.specs.declared.effect.Mode.TheVariants.{Running}
use Rattle.burr_state.specs.declared.effect.Motion.{Motion}
use Rattle.burr_state.specs.declared.effect.Trap.{Trap}
use Rattle.burr_state.specs.Rules.Bench.{BenchState, Setup}
use Rattle.burr_state.specs.Rules.Next.{Next, Goes, Traps, stepped}
use Rattle.burr_state.specs.Rules.Step.{NextIs, TakesAnswer}
use Rattle.burr_bench.specs.Soundness.Standing.{Stands}
use Rattle.burr_bench.specs.Soundness.SafeRuns.{HasEnded}

-- The step is made, the running procedure goes on at this position with its parameters, and the
-- bench stands for this state, whose cost is at least one less.
pub record GoesOnAs (here : FramedProcedure) (s : AbstractState) (point : Point) (b : BenchState)
    (t : AbstractState) (pc : ℕ) (next : Next) : Type 0 where
  pub new : BenchState
  pub motion : Option Motion
  pub next_is : next ≡ Goes new motion
  pub there : Point
  pub stands : Stands t there new
  pub paid : value there t.cost ≤ℤ (value point s.cost -ℤ pos 1)
  -- its callers wait as before
  pub control : new ≡ stepped (record b {
    places = new.places;
    tray = new.tray;
    grip = new.grip;
    running = record new.running { procedure = b.running.procedure; pc = pc };
  })
  pub kept : (j : ℕ) → j < here.parameters → get_or new.running.slots j None ≡ get_or b.running.slots j None

-- The bench stands for the state that falls out, after the instruction.
abbrev pub FallsOn : FramedProcedure → Instruction → AbstractState → Point → BenchState → Verdict → Next → Type 0
FallsOn here i s point b verdict next =
    (t : AbstractState) × (verdict ≡ FallsThrough t)
    × GoesOnAs here s point b t (b.running.pc + length (spelled i)) next

-- The bench goes to a label, and stands for the state of its frame.
abbrev pub SentOn : FramedProcedure → AbstractState → Point → BenchState → Next → Type 0
SentOn here s point b next =
    (pc : ℕ) × (f : Frame) × IsLabelled here pc f × GoesOnAs here s point b (state_of f) pc next

-- what a fact that holds of running states must give, so that runs close well
pub record Carries (setup : Setup) (budget : ℕ) (Fact : BenchState → Type 0) : Type 0 where
  pub running : (s : BenchState) → Fact s → (s.mode ≡ Running) × (s.steps < budget)
  pub no_trap : (s : BenchState) (trap : Trap) → Fact s → ¬ NextIs setup s (Traps trap)
  pub goes : (s new : BenchState) (motion : Option Motion) → Fact s
      → NextIs setup s (Goes new motion)
      → Fact new ⊎ HasEnded budget new
  pub answers : (s new : BenchState) (answer : ℤ) → Fact s → TakesAnswer setup s answer new
      → Fact new ⊎ HasEnded budget new
