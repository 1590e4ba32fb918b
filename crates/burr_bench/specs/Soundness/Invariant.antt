-- What holds before each step of a run of a well framed plan: the bench stands for the state of a
-- cut at a point, its callers wait, and the costs that are left come to no more than the budget.
use Rattle.std.specs.Prelude.{◌≡◌, ℕ, suc, ◌<◌, ℤ, pos, ◌+ℤ◌, ◌≤ℤ◌, List, [], ◌∷◌, ◌++◌, length, reverse, get_or, slice_get, Option, Some, None}
use Rattle.burr_voxels.specs.declared.cell.Cell.{Cell}
use Rattle.burr_code.specs.declared.placement.Placement.{Placement}
use Rattle.burr_code.specs.Instruction.{Call}
use Rattle.burr_code.specs.Places.{AllLieIn}
use Rattle.burr_code.specs.Stacks.{top_many}
use Rattle.burr_forms.specs.Rules.Forms.{Form, Point, value, values}
use Rattle.burr_forms.specs.Rules.Points.{InBox, GuardsHold}
use Rattle.burr_frames.specs.Rules.FramedPlans.{FramedExit, FramedProcedure, FramedPlan}
use Rattle.burr_frames.specs.Rules.States.{AbstractState, IsPoint, places_at}
use Rattle.burr_frames.specs.Rules.Transfer.{Transfer}
use Rattle.burr_frames.specs.Rules.Verdicts.{FallsThrough}
use Rattle.burr_verify.specs.Rules.WellFramed.{Annotated, Enters, IsCut}
use Rattle.burr_state.specs.declared.effect.Mode.TheVariants.{Running}
use Rattle.burr_state.specs.Laws.AsideLaws.{NoneLone}
use Rattle.burr_state.specs.Rules.Bench.{Activation, BenchState}
use Rattle.burr_state.specs.Rules.Space.{NoOverlap}
use Rattle.burr_bench.specs.Soundness.Standing.{StandsFor, Stands}

-- no two pieces of a tray overlap, the grip lies in the current tray, no piece is alone in a tray
pub record IsGood (homes : List (List Cell)) (places : List (Placement Cell)) (tray grip : ℕ)
    : Type 0 where
  pub no_overlap : NoOverlap homes places
  pub gripped : AllLieIn places tray grip
  pub no_lone : NoneLone places

-- Calls

-- an activation has these parameters in its first slots
pub record HasParameters (here : FramedProcedure) (parameters : List ℤ) (slots : List (Option ℤ))
    : Type 0 where
  pub as_many : length parameters ≡ here.parameters
  pub each : (v : ℕ) → v < here.parameters → get_or slots v None ≡ slice_get parameters v

-- the exit frame admits these results for these parameters
pub record IsAdmitted (exit : FramedExit) (parameters results : List ℤ) : Type 0 where
  pub in_box : InBox exit.results results
  pub guards : GuardsHold exit.guards (parameters ++ results)

-- With these results a waiting caller stands for its state after the call, where the pieces lie as
-- the exit frame says.
pub record ReturnsAs (state : AbstractState) (point : Point) (exit : FramedExit)
    (parameters results : List ℤ) (a : Activation) (cost : ℤ) : Type 0 where
  pub stands : StandsFor state (point ++ results) a.slots (reverse results ++ a.operands)
  pub places : places_at (parameters ++ results) exit.places
      ≡ places_at (point ++ results) state.places
  pub cost_is : value (point ++ results) state.cost ≡ cost

-- At a point the callee's parameters are what the forms of the call's arguments give there, the
-- first argument the deepest of the operands.
pub record IsGiven (s : AbstractState) (point : Point) (callee : FramedProcedure)
    (parameters : List ℤ) : Type 0 where
  pub is_point : IsPoint s point
  pub arguments : List Form
  pub below : List Form
  pub taken : top_many callee.parameters s.operands ≡ Some (arguments, below)
  pub values_are : parameters ≡ values point (reverse arguments)

-- A caller waits for a callee with these parameters: it made a call of it, and waits at the state
-- that falls out of the call.
pub record Waits (homes : List (List Cell)) (plan : FramedPlan) (callee : FramedProcedure)
    (parameters : List ℤ) (a : Activation) : Type 0 where
  pub here : FramedProcedure
  pub here_is : slice_get plan.procedures a.procedure ≡ Some here
  pub rows : List Annotated
  pub cut : IsCut homes plan a.procedure here rows
  -- the call, and the instruction after it
  pub k : ℕ
  pub call : Annotated
  pub call_is : slice_get rows k ≡ Some call
  pub next : Annotated
  pub next_is : slice_get rows (suc k) ≡ Some next
  pub pc : a.pc ≡ next.pc
  -- whose call it is
  pub number : ℕ
  pub calls : call.instruction ≡ Call number
  pub callee_is : slice_get plan.procedures number ≡ Some callee
  -- the state that falls out of the call, and in after it
  pub state : AbstractState
  pub falls_out : Transfer homes plan a.procedure here call.state call.instruction
      (FallsThrough state)
  pub enters : Enters here a.pc (Some state) next.state
  pub slots_eight : length state.slots ≡ 8
  pub exit : FramedExit
  pub exit_is : callee.exit ≡ Some exit
  pub tray : exit.tray ≡ state.tray
  pub grip : exit.grip ≡ state.grip
  -- where the caller stood, and what it has left to spend
  pub point : Point
  pub given : IsGiven call.state point callee parameters
  pub cost : ℤ
  pub enough : pos 0 ≤ℤ cost
  pub returns : (results : List ℤ) → IsAdmitted exit parameters results
      → ReturnsAs state point exit parameters results a cost
  -- the caller's own parameters
  pub own : List ℤ
  pub own_are : HasParameters here own a.slots

-- The callers of a procedure that runs with these parameters wait, each for one of a higher number,
-- and what they have left to spend comes to this sum.
abbrev pub AllWait : List (List Cell) → FramedPlan → ℕ → FramedProcedure → List ℤ → List Activation
    → ℤ → Type 0
AllWait homes plan n here parameters [] cost = (n ≡ 0) × (cost ≡ pos 0)
AllWait homes plan n here parameters (a ∷ callers) cost =
    (a.procedure < n) × (waits : Waits homes plan here parameters a) × (rest : ℤ)
    × AllWait homes plan a.procedure waits.here waits.own callers rest
    × (cost ≡ (waits.cost +ℤ rest))

-- The invariant

pub record IsSafeState (homes : List (List Cell)) (plan : FramedPlan) (b : BenchState)
    : Type 0 where
  pub mode : b.mode ≡ Running
  pub here : FramedProcedure
  pub here_is : slice_get plan.procedures b.running.procedure ≡ Some here
  pub rows : List Annotated
  pub cut : IsCut homes plan b.running.procedure here rows
  -- the instruction of the cut at which the bench stands
  pub k : ℕ
  pub row : Annotated
  pub row_is : slice_get rows k ≡ Some row
  pub pc : b.running.pc ≡ row.pc
  pub point : Point
  pub stands : Stands row.state point b
  pub good : IsGood homes b.places b.tray b.grip
  pub parameters : List ℤ
  pub parameters_are : HasParameters here parameters b.running.slots
  -- what the callers have left to spend
  pub waiting_cost : ℤ
  pub callers : AllWait homes plan b.running.procedure here parameters b.callers waiting_cost
  pub budgeted : ((value point row.state.cost +ℤ waiting_cost) +ℤ pos b.steps) ≤ℤ pos plan.budget
