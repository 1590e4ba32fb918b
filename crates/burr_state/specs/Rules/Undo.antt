-- Going back by records: what a step changed, as it was before.
use Rattle.std.specs.Prelude.{◌≡◌, ◌<◌, ◌-◌, ◌^◌, ℕ, ℤ, List, [], ◌∷◌, drop, Option, Ok}
use Rattle.burr_voxels.specs.declared.cell.Cell.{Cell}
use Rattle.burr_code.specs.Instruction.{Instruction, Halt, Grip, Step, Aside, Tray, Jump, Pick, Call, Ret}
use Rattle.burr_code.specs.declared.placement.Placement.{Placement}
use Rattle.burr_state.specs.declared.effect.Mode.TheVariants.{Running}
use Rattle.burr_state.specs.declared.effect.Motion.{Motion}
use Rattle.burr_state.specs.declared.effect.Progress.TheVariants as progress
use Rattle.burr_state.specs.Rules.Bench.{Activation, BenchState, BenchProcedure, Setup}
use Rattle.burr_state.specs.Rules.Step.{Called, IsAt}

-- what an instruction changed besides the position, the steps and the mode
pub data Change : Type 0 where
  -- nothing: `halt`, `jump`, `pick`
  Nothing : Change
  -- slots and operands of the running activation: numbers, `down`, `ask`
  Numbers : (slots : List (Option ℤ)) (operands : List ℤ) → Change
  -- the current tray and the grip: `grip`, `tray`
  Choice : (tray grip : ℕ) → Change
  -- where pieces lie, and the grip: `step`, `aside`
  Places : (places : List (Placement Cell)) (grip : ℕ) → Change
  -- an activation more: `call`; the caller's operands, its arguments with them
  Deeper : (operands : List ℤ) → Change
  -- an activation less: `ret`; the one that ended, and how many results it gave
  Higher : (ended : Activation) (results : ℕ) → Change

-- an undone step: where it stood, and what it changed
pub record Undo : Type 0 where
  pub pc : ℕ
  pub change : Change

-- the old activation, of the one that runs
abbrev pub at_pc : ℕ → Activation → Activation
at_pc pc a = record a { pc = pc }

-- the nearest of these callers goes on at this position with these operands
abbrev pub popped : ℕ → List ℤ → List Activation → BenchState → BenchState
popped pc operands [] s = s
popped pc operands (caller ∷ callers) s = record s {
  running = record caller { pc = pc; operands = operands };
  callers = callers;
}

-- the old values of what changed, laid over a state
abbrev pub changed_back : ℕ → Change → BenchState → BenchState
changed_back pc Nothing s = record s { running = at_pc pc s.running }
changed_back pc (Numbers slots operands) s =
    record s { running = record s.running { pc = pc; slots = slots; operands = operands } }
changed_back pc (Choice tray grip) s =
    record s { running = at_pc pc s.running; tray = tray; grip = grip }
changed_back pc (Places places grip) s =
    record s { running = at_pc pc s.running; places = places; grip = grip }
changed_back pc (Deeper operands) s = popped pc operands s.callers s
changed_back pc (Higher ended results) s = record s {
  running = at_pc pc ended;
  callers = record s.running { operands = drop results s.running.operands } ∷ s.callers;
}

-- The record's old values laid over a state: one step less, and running.
abbrev pub laid_over : Undo → BenchState → BenchState
laid_over u s = record (changed_back u.pc u.change s) { steps = s.steps - 1; mode = Running }

-- what an instruction changes, as it is before it
abbrev pub change_of : BenchProcedure → BenchState → Instruction → Change
change_of here s Halt = Nothing
change_of here s (Jump label) = Nothing
change_of here s (Pick labels) = Nothing
change_of here s (Grip set) = Choice s.tray s.grip
change_of here s (Tray tray) = Choice s.tray s.grip
change_of here s (Step direction) = Places s.places s.grip
change_of here s (Aside direction tray) = Places s.places s.grip
change_of here s (Call callee) = Deeper s.running.operands
change_of here s Ret = Higher s.running here.results
change_of here s i = Numbers s.running.slots s.running.operands

-- the record of an instruction's step
abbrev pub record_of : BenchProcedure → BenchState → Instruction → Undo
record_of here s i = record { pc = s.running.pc; change = change_of here s i }

-- the record of the step that a state makes next
abbrev pub IsRecordOf : Setup → BenchState → Undo → Type 0
IsRecordOf setup s u =
    (here : BenchProcedure) × (i : Instruction) × IsAt setup s here i × (u ≡ record_of here s i)

-- Laws

-- a step's record, laid over what it leaves, gives what was before it
abbrev pub RecordsGoBack : Type 0
RecordsGoBack =
    (setup : Setup) (s new : BenchState) (answer : Option ℤ) (motion : Option Motion) (u : Undo)
    → s.mode ≡ Running → s.steps < 2 ^ 64 - 1
    → Called setup s answer (Ok (progress.Went motion)) new → IsRecordOf setup s u
    → laid_over u new ≡ s

-- so two states with one record that come to one state are the same
abbrev pub RecordsTell : Type 0
RecordsTell =
    (setup : Setup) (s t new : BenchState) (a b : Option ℤ) (m n : Option Motion) (u : Undo)
    → s.mode ≡ Running → t.mode ≡ Running → s.steps < 2 ^ 64 - 1 → t.steps < 2 ^ 64 - 1
    → Called setup s a (Ok (progress.Went m)) new → Called setup t b (Ok (progress.Went n)) new
    → IsRecordOf setup s u → IsRecordOf setup t u → s ≡ t
