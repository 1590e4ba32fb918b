-- What the code's state of the bench stands for, and what holds of each.
use Rattle.std.specs.Prelude.{Option, MatchOption, ℕ, ◌+◌, ◌^◌, ◌<◌, ◌≤◌, ℤ, List, [], ◌∷◌, None, drop, length, replicate, pos}
use Rattle.burr_text.specs.Checks.{needs}
use Rattle.burr_voxels.specs.declared.cell.Cell.{Cell}
use Rattle.burr_voxels.specs.declared.direction.Direction.{Direction}
use Rattle.burr_voxels.specs.Grid.{origin, plus, along}
use Rattle.burr_voxels.specs.Near.{IsWithin}
use Rattle.burr_code.specs.declared.limits.TheConstants.{MOST_OFFSET}
use Rattle.burr_code.specs.Instruction.{IsInNumberRange}
use Rattle.burr_code.specs.declared.placement.Placement.{Placement}
use Rattle.burr_code.specs.declared.placement.Placement.TheVariants.{On}
use Rattle.burr_code.specs.Places.{LiesAt, LiesIn, AllLieIn, aside_places}
use Rattle.burr_state.specs.declared.effect.Mode.{Mode}
use Rattle.burr_state.specs.declared.effect.Mode.TheVariants.{Running}
use Rattle.burr_state.specs.Rules.Bench.{Activation, activation, BenchState}
use Rattle.burr_state.specs.declared.effect.Trap.TheVariants as traps
use Rattle.burr_state.specs.Rules.Next.{Next, Traps, goes, stepped}
use Rattle.burr_state.specs.Rules.Numbers.{with_operands}
use Rattle.burr_state.specs.Views.Offsets.{AreNear}
use Rattle.burr_state.specs.Rules.Space.{AllOnBench, moved_places}

-- a state with these parts
abbrev pub standing : List (Placement Cell) → ℕ → ℕ → Activation → List Activation → ℕ → Mode
    → BenchState
standing places tray grip running callers steps mode = record {
  places = places;
  tray = tray;
  grip = grip;
  running = running;
  callers = callers;
  steps = steps;
  mode = mode;
}

-- this many pieces at home in tray 0, and main at its begin
abbrev pub at_start : ℕ → BenchState
at_start pieces =
    standing (replicate pieces (On 0 origin)) 0 0 (activation 0 0 (replicate 8 None) []) [] 0
    Running

-- each caller waits within its code, and called a procedure of a higher number
abbrev pub IsCallChain : ℕ → List Activation → Type 0
IsCallChain procedure [] = Unit {0}
IsCallChain procedure (caller ∷ callers) =
    (caller.procedure < procedure) × (caller.pc < 2 ^ 16) × IsCallChain caller.procedure callers

-- what holds of each state
pub record IsOrderly (s : BenchState) : Type 0 where
  pub near : AreNear s.places
  -- the grip lies in the current tray
  pub here : AllLieIn s.places s.tray s.grip
  pub few : length s.places ≤ 32
  pub within : s.running.pc < 2 ^ 16
  pub chain : IsCallChain s.running.procedure s.callers

-- the step is made, and the run goes on `size` bytes further
abbrev pub after : ℕ → BenchState → BenchState
after size s = stepped (record s { running = record s.running { pc = s.running.pc + size } })

-- The number takes the place of the two topmost operands, where operands may hold it; then the run
-- goes on `size` bytes further.
abbrev pub replacing_two : BenchState → ℤ → ℕ → Next → Type 0
replacing_two s n size =
    needs (IsInNumberRange n) (Traps traps.NumberRange)
    (goes (after size (record s {
      running = with_operands (n ∷ drop 2 s.running.operands) s.running;
    })) None)

-- how far from home piece p lies in the current tray, if it lies there
abbrev pub IsOffsetHere : BenchState → ℕ → Option Cell → Type 0
IsOffsetHere s p found =
    MatchOption found (¬ LiesIn s.places p s.tray) (λ offset. LiesAt s.places p s.tray offset)

-- the step of an `aside` of `size` bytes to this tray
abbrev pub gone_aside : ℕ → ℕ → BenchState → BenchState
gone_aside tray size s = record (after size s) {
  places = aside_places s.grip s.tray tray s.places;
  grip = 0;
}

-- piece p, if it lies in the current tray, is on the bench one unit along the direction
abbrev pub PieceStaysOnBench : BenchState → Direction → ℕ → Type 0
PieceStaysOnBench s direction p =
    (offset : Cell) → LiesAt s.places p s.tray offset
    → IsWithin MOST_OFFSET (plus offset (along direction (pos 1)))

-- each piece of the current tray is on the bench after the grip moved by one unit
abbrev pub StaysOnBench : BenchState → Direction → Type 0
StaysOnBench s direction = AllOnBench (moved_places s.grip direction s.places) s.tray

-- the step of a `step` of `size` bytes along this direction
abbrev pub moved_grip : Direction → ℕ → BenchState → BenchState
moved_grip direction size s =
    record (after size s) { places = moved_places s.grip direction s.places }
