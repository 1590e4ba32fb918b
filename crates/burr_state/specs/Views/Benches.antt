-- A bench at work: an assembly, the program that is run on it, and where the run stands.
use Rattle.std.specs.Prelude.{◌≡◌, ◌≤◌, ◌+◌, ℕ, ℤ, Bool, true, false, if◌then◌else◌, Option, Some, None, Result, Ok, Err}
use Rattle.burr_assembly.specs.Rules.Text.{Assembly}
use Rattle.burr_assembly.specs.Rules.Homes.{homes_of}
use Rattle.burr_state.specs.declared.effect.Trap.{Trap}
use Rattle.burr_state.specs.declared.effect.Motion.{Motion}
use Rattle.burr_state.specs.declared.effect.Progress.{Progress}
use Rattle.burr_state.specs.declared.effect.Progress.TheVariants as progress
use Rattle.burr_state.specs.Rules.Bench.{running, start, BenchState, Program, Setup}
use Rattle.burr_state.specs.Rules.Step.{TakesAnswer, IsUnfit}
use Rattle.burr_state.specs.Views.Parts.{parts}

-- a bench at work: what it runs, and where it stands
pub record Benched : Type 0 where
  pub assembly : Assembly
  pub program : Program
  pub state : BenchState

abbrev pub setup_of : Benched → Setup
setup_of b = running (homes_of b.assembly) b.program

-- a bench with these parts
abbrev pub benched : Assembly → Program → BenchState → Benched
benched assembly program state =
    record { assembly = assembly; program = program; state = state }

-- the same bench in another state
abbrev pub in_state : BenchState → Benched → Benched
in_state state b = record b { state = state }

-- a bench that has made no step: it stands at the start of what it runs, all pieces in one part
pub record IsAtStart (b : Benched) : Type 0 where
  pub state : b.state ≡ start (setup_of b)
  pub parts : parts b.state.places ≡ 1

-- how many outs this is: one for a motion that goes out, else none
abbrev pub outs_of : Option Motion → ℕ
outs_of None = 0
outs_of (Some motion) = if motion.out then 1 else 0

-- the motion that a call made
abbrev pub motion_in : Result Progress Trap → Option Motion
motion_in (Ok (progress.Went motion)) = motion
motion_in (Ok (progress.Asks low high)) = None
motion_in (Ok progress.Again) = None
motion_in (Ok progress.Ended) = None
motion_in (Err trap) = None

-- both benches run the same program on the same assembly
pub record IsSameRun (old new : Benched) : Type 0 where
  pub assembly : new.assembly ≡ old.assembly
  pub program : new.program ≡ old.program

-- each out has made one part more
pub record GoesOn (old new : Benched) (motion : Option Motion) : Type 0 where
  pub outs : parts new.state.places ≡ parts old.state.places + outs_of motion
  pub few : parts new.state.places ≤ 32

-- an answer is taken, or no question stands next that it fits, and nothing changes
abbrev pub Answered : Setup → BenchState → ℤ → Bool → BenchState → Type 0
Answered setup s answer true new = TakesAnswer setup s answer new
Answered setup s answer false new = IsUnfit setup s answer × (new ≡ s)
