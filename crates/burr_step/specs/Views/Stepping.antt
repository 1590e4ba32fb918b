-- A run under way, step by step, and what the calls of a stepper come to.
use Rattle.std.specs.Prelude.{◌≡◌, ◌<◌, ◌≤◌, ◌⊎◌, ◌+◌, ◌-◌, ◌^◌, [], ◌∷◌, ℕ, ℤ, List, length, take, slice_get, Option, Some, None, Result, Ok, Err}
use Rattle.burr_container.specs.Rules.Plans.{Plan}
use Rattle.burr_container.specs.Views.Containers.{IsContainer}
use Rattle.burr_verify.specs.Rules.Accepting.{Judged}
use Rattle.burr_assembly.specs.Rules.Text.{Assembly}
use Rattle.burr_state.specs.Rules.Bench.{BenchState, Program, Setup, HasLabelOf, start}
use Rattle.burr_state.specs.Rules.Undo.{Undo}
use Rattle.burr_state.specs.Views.Benches.{Benched, benched, setup_of, in_state, IsAtStart, IsSameRun}
use Rattle.burr_state.specs.Views.Programs.{plan_program}
use Rattle.burr_state.specs.declared.effect.Progress.{Progress}
use Rattle.burr_state.specs.Rules.Step.{Called}
use Rattle.burr_bench.specs.Safe.{IsResumable}
use Rattle.burr_bench.specs.Soundness.Machine.{IsSafeBench}
use Rattle.burr_bench.specs.Recorded.{TakesBack, MadeStep, gone_back}
use Rattle.burr_step.specs.declared.records.TheConstants.{MOST_RECORDS}
use Rattle.burr_step.specs.declared.stepper.StepRefusal.{StepRefusal as CodeRefusal}
use Rattle.burr_step.specs.declared.stepper.StepRefusal.TheVariants as code
use Rattle.burr_step.specs.declared.stepper.Stop.{Stop}
use Rattle.burr_step.specs.declared.stepper.Stop.TheVariants as stops
use Rattle.burr_step.specs.Rules.Stepper.{Leads, History, history, IsStateOf, IsKept, IsAsking, IsHalted, GoesUntil, farther_by, depth_of, StepCommand, StepRefusal, S1, S2, S3, S4, Taken, Refused, Follows, Commanding}
use Rattle.burr_step.specs.Views.UndoRing.{AreRecordsOf}

-- the bench, and the steps and answers that the commands so far fix
pub record Stepping : Type 0 where
  pub bench : Benched
  pub history : History

-- a bench that has taken these answers
abbrev pub stepping : Benched → List ℤ → Stepping
stepping b answers = record { bench = b; history = history b.state.steps answers }

-- These records are of the last steps of a run of an accepted plan, which stands where its steps
-- and answers lead.
pub record IsUnderWay (s : Stepping) (undos : List Undo) : Type 0 where
  pub start : IsSafeBench (in_state (start (setup_of s.bench)) s.bench)
  pub state : IsStateOf (setup_of s.bench) s.history s.bench.state
  pub records : AreRecordsOf s.bench s.history undos

-- where a stepper stands, and nothing of what it runs: its answers, and the records of its last steps
pub record Pause : Type 0 where
  pub state : BenchState
  pub answers : List ℤ
  pub undos : List Undo

abbrev pub pause : BenchState → List ℤ → List Undo → Pause
pause state answers undos = record { state = state; answers = answers; undos = undos }

-- the stepper of a program on an assembly that stands there
abbrev pub stepping_at : Assembly → Program → Pause → Stepping
stepping_at assembly program p = stepping (benched assembly program p.state) p.answers

-- a run of the program on the assembly is under way there, and its machine can be gone on with
pub record IsPaused (assembly : Assembly) (program : Program) (p : Pause) : Type 0 where
  pub under_way : IsUnderWay (stepping_at assembly program p) p.undos
  pub resumable : IsResumable (benched assembly program p.state)

-- the stepper stands there, and can be gone on with
pub record IsPauseOf (s : Stepping) (p : Pause) : Type 0 where
  pub stands : s ≡ stepping_at s.bench.assembly s.bench.program p
  pub paused : IsPaused s.bench.assembly s.bench.program p

-- before its first step, on the plan and the assembly that were accepted
pub record IsFresh (accepted : Judged) (s : Stepping) : Type 0 where
  pub assembly : s.bench.assembly ≡ accepted.assembly
  pub program : (p : Plan) → IsContainer accepted.container p
      → s.bench.program ≡ plan_program p
  pub start : IsAtStart s.bench
  pub history : s.history ≡ history 0 []

-- at least this many steps follow, which take exactly these answers
abbrev pub HasRun : Benched → List ℤ → ℕ → Type 0
HasRun b answers steps =
    (made : ℕ) × (last : BenchState) × (steps ≤ made)
    × Leads (setup_of b) b.state made answers last

-- a command was carried out: the stepper came to this, on the same run
pub record IsDone (old : Stepping) (Comes : Follows) (new : Stepping) : Type 0 where
  pub comes : Comes (Taken new.history new.bench.state)
  pub same : IsSameRun old.bench new.bench

-- it was refused, and nothing changed
pub record IsRefused (old : Stepping) (Comes : Follows) (refusal : StepRefusal) (new : Stepping)
    : Type 0 where
  pub comes : Comes (Refused refusal)
  pub same : new ≡ old

-- what a command came to, by the result of the call: it was carried out or refused; where a request
-- for memory was refused, nothing changed
abbrev pub CameTo : {Done : Type 0} → Stepping → Follows → Result Done CodeRefusal → Stepping
    → Type 0
CameTo old Comes (Ok done) new = IsDone old Comes new
CameTo old Comes (Err code.S1) new = IsRefused old Comes S1 new
CameTo old Comes (Err code.S2) new = IsRefused old Comes S2 new
CameTo old Comes (Err code.S3) new = IsRefused old Comes S3 new
CameTo old Comes (Err code.S4) new = IsRefused old Comes S4 new
CameTo old Comes (Err code.Memory) new = new ≡ old

-- no memory was asked for
abbrev pub NeedsNoMemory : {Done : Type 0} → Result Done CodeRefusal → Type 0
NeedsNoMemory (Ok done) = Unit {0}
NeedsNoMemory (Err code.S1) = Unit {0}
NeedsNoMemory (Err code.S2) = Unit {0}
NeedsNoMemory (Err code.S3) = Unit {0}
NeedsNoMemory (Err code.S4) = Unit {0}
NeedsNoMemory (Err code.Memory) = ⊥

-- what a command comes to on this stepper
abbrev pub commanding : Stepping → StepCommand → Follows
commanding s command = Commanding (setup_of s.bench) s.history s.bench.state command

-- the numbers of each label fit those of the code
abbrev pub LabelsAreFew : Setup → Type 0
LabelsAreFew setup =
    (procedure label : ℕ) → HasLabelOf setup procedure label
    → (procedure < 2 ^ 8) × (label < 2 ^ 16)

-- where several steps stop, if the run does not halt before
abbrev pub IsThere : Stop → BenchState → Type 0
IsThere (stops.Depth depth) s = depth_of s ≤ depth
IsThere (stops.Position procedure position) s =
    (s.running.procedure ≡ procedure) × (s.running.pc ≡ position)

-- the run has halted, or is there
abbrev pub StopsFor : Setup → Stop → BenchState → Type 0
StopsFor setup stop s = IsHalted setup s ⊎ IsThere stop s

-- Steps were made from `old` to `now`. Where `IsSo` holds now, they led to the first state for
-- which it holds; else steps that lead from `now` to the first such state lead there from `old`
-- too.
pub record IsUpTo (IsSo : BenchState → Type 0) (old now : Stepping) : Type 0 where
  pub same : IsSameRun old.bench now.bench
  pub begins : ¬ IsHalted (setup_of old.bench) old.bench.state
  pub steps : ℕ
  pub history : now.history ≡ farther_by steps old.history
  pub here : IsSo now.bench.state
      → GoesUntil (setup_of old.bench) IsSo old.bench.state steps now.bench.state
  pub later : (¬ IsSo now.bench.state) → (more : ℕ) (last : BenchState)
      → GoesUntil (setup_of old.bench) IsSo now.bench.state more last
      → GoesUntil (setup_of old.bench) IsSo old.bench.state (steps + more) last

-- one step more was made, with this answer or none, and its record is kept
pub record IsStepOn (old : Benched) (answer : Option ℤ) (undos : List Undo) (new : Benched)
    (left : List Undo) : Type 0 where
  pub told : Progress
  pub undo : Undo
  pub made : MadeStep told
  pub same : IsSameRun old new
  pub called : Called (setup_of old) old.state answer (Ok told) new.state
  pub takes_back : TakesBack new undo
  pub back : gone_back undo new ≡ old
  pub kept : left ≡ take MOST_RECORDS (undo ∷ undos)

-- none was made, and nothing changed
pub record IsStill (old : Benched) (answer : Option ℤ) (undos : List Undo) (new : Benched)
    (left : List Undo) : Type 0 where
  pub told : Progress
  pub still : ¬ MadeStep told
  pub called : Called (setup_of old) old.state answer (Ok told) new.state
  pub machine : new ≡ old
  pub records : left ≡ undos

-- `many` steps were undone, by as many of the records
pub record IsUndone (many : ℕ) (old now : Stepping) (undos left : List Undo) : Type 0 where
  pub same : IsSameRun old.bench now.bench
  pub kept : IsKept (setup_of old.bench) old.history now.history now.bench.state
  pub steps : old.history.steps ≡ now.history.steps + many
  pub records : length undos ≡ length left + many
  pub under_way : IsUnderWay now left

-- `many` steps were made again, and took the first `used` of the answers
pub record IsAgain (answers : List ℤ) (many used : ℕ) (old now : Benched) (undos : List Undo)
    : Type 0 where
  pub same : IsSameRun old now
  pub steps : now.state.steps ≡ many
  pub within : used ≤ length answers
  pub under_way : IsUnderWay (stepping now (take used answers)) undos

-- the answer that a run takes next of these, after the first `used`: none where it waits for none,
-- or where none is left
abbrev pub IsNextAnswer : Setup → BenchState → List ℤ → ℕ → Option ℤ → Type 0
IsNextAnswer setup s answers used answer =
    (IsAsking setup s × (answer ≡ slice_get answers used))
    ⊎ ((¬ IsAsking setup s) × (answer ≡ None))

-- how many answers are then taken
abbrev pub taken_more : Option ℤ → ℕ → ℕ
taken_more None used = used
taken_more (Some answer) used = used + 1

-- the answers that are left where the step that stands next has been undone
abbrev pub IsLeft : Setup → BenchState → List ℤ → List ℤ → Type 0
IsLeft setup s answers left =
    (IsAsking setup s × (left ≡ take (length answers - 1) answers))
    ⊎ ((¬ IsAsking setup s) × (left ≡ answers))
