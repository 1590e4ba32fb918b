-- A run and its sheet, both under way.
use Rattle.std.specs.Prelude.{◌≡◌, ◌<◌, ◌≤◌, ◌+◌, ◌-◌, ◌++◌, ◌⊎◌, ℕ, ℤ, List, [], ◌∷◌, length, None, false}
use Rattle.std.specs.Borrow.{Bor}
use Rattle.burr_io.specs.Sink.{SinkView, Takes, FailsWithin}
use Rattle.burr_assembly.specs.Rules.Text.{Assembly}
use Rattle.burr_state.specs.declared.effect.Mode.TheVariants.{Running, Ended}
use Rattle.burr_state.specs.declared.effect.Motion.{Motion}
use Rattle.burr_runs.specs.declared.text_runs.Outcome.{Outcome}
use Rattle.burr_state.specs.Rules.Bench.{Program}
use Rattle.burr_state.specs.Rules.Run.{Run}
use Rattle.burr_state.specs.declared.effect.Closing.{Closing}
use Rattle.burr_state.specs.declared.effect.Closing.TheVariants as closings
use Rattle.burr_state.specs.Views.Parts.{parts}
use Rattle.burr_sheet.specs.Views.SheetUnderWay.{UnderWay, still}
use Rattle.burr_state.specs.Views.Benches.{Benched, setup_of, IsSameRun, GoesOn}
use Rattle.burr_state.specs.Rules.Step.{TakesAnswer}
use Rattle.burr_state.specs.Rules.Step.{IsStepFrom}
use Rattle.burr_state.specs.Rules.Questions.{Fits}
use Rattle.std.specs.declared.ops.ControlFlow.{ControlFlow}
use Rattle.std.specs.declared.ops.ControlFlow.TheVariants as turns
use Rattle.burr_runs.specs.Rules.Output.{IsSheetOf}

-- how far a run is: the bench, the answers that are left, and the sheet
pub record RunState : Type 0 where
  pub bench : Benched
  pub answers : List ℤ
  pub sheet : UnderWay

abbrev pub run_state : Benched → List ℤ → UnderWay → RunState
run_state bench answers sheet = record { bench = bench; answers = answers; sheet = sheet }

-- from there, within the program's budget, a run makes these motions, has made this many steps at
-- its end, and closes in this way
abbrev pub RunsOn : RunState → List Motion → ℕ → Closing → Type 0
RunsOn p motions steps closing =
    Run (setup_of p.bench) p.bench.program.budget p.bench.state p.answers motions steps closing

-- However the run goes on, after these bytes comes what is then still to be written.
abbrev pub Leads : RunState → List ℕ → RunState → Type 0
Leads p bytes q =
    (motions : List Motion) (steps : ℕ) (closing : Closing)
    → RunsOn q motions steps closing
    → (all : List Motion) × RunsOn p all steps closing
    × (still p.sheet all steps closing ≡ bytes ++ still q.sheet motions steps closing)

-- a sink took what a part of the run closes
abbrev pub PutsPart : {S : Type 0} → SinkView S → S → S → RunState → RunState → Type 0
PutsPart sink before after p q =
    (bytes : List ℕ) × Takes sink before after bytes × Leads p bytes q

-- a sink failed, and had taken a front of what is still to be written of the run
abbrev pub FailsInRun : {S : Type 0} → SinkView S → S → S → RunState → Type 0
FailsInRun sink before after p =
    (motions : List Motion) × (steps : ℕ) × (closing : Closing)
    × RunsOn p motions steps closing
    × FailsWithin sink before after (still p.sheet motions steps closing)

-- the bench and the sheet keep step
pub record IsInStep (b : Benched) (u : UnderWay) : Type 0 where
  pub mode : (b.state.mode ≡ Running) ⊎ (b.state.mode ≡ Ended)
  pub within : b.state.steps ≤ b.program.budget
  pub few : b.program.budget ≤ 1000000
  pub motions : u.motions ≤ b.state.steps
  -- there is one part more than there were outs
  pub outs : length u.levels + 1 ≡ parts b.state.places
  pub unfailed : u.failed ≡ false

-- a run goes on with the same program and assembly, bench and sheet in step
pub record GoesWith {S : Type 0} (sink : SinkView S) (before after : S) (p q : RunState)
    : Type 0 where
  pub in_step : IsInStep q.bench q.sheet
  pub same : IsSameRun p.bench q.bench
  pub puts : PutsPart sink before after p q

-- Where the run closes in this way, the end of its sheet comes after these bytes.
abbrev pub LeadsToEnd : RunState → List ℕ → RunState → Closing → Type 0
LeadsToEnd p bytes q closing =
    (all : List Motion) × RunsOn p all q.bench.state.steps closing
    × (still p.sheet all q.bench.state.steps closing
    ≡ bytes ++ still q.sheet [] q.bench.state.steps closing)

-- a sink took what comes before the end of the sheet, where the run closes in this way
abbrev pub ClosesPart : {S : Type 0} → SinkView S → S → S → RunState → RunState → Closing → Type 0
ClosesPart sink before after p q closing =
    (bytes : List ℕ) × Takes sink before after bytes × LeadsToEnd p bytes q closing

-- the steps and the answers that a run can still take
abbrev pub left_to_take : RunState → ℕ
left_to_take p = (p.bench.program.budget - p.bench.state.steps) + length p.answers

-- what a turn of the run came to: it goes on with these answers left, or closes where it stands
abbrev pub TurnIs : {S : Type 0} → SinkView S → S → S → RunState → Benched → UnderWay
    → ControlFlow Closing (Bor (List ℤ)) → Type 0
TurnIs sink before after p new more (turns.Continue left) =
    GoesWith sink before after p (run_state new left.now more)
    × (left_to_take (run_state new left.now more) < left_to_take p)
TurnIs sink before after p new more (turns.Break closing) =
    RunsOn p [] new.state.steps closing × (more ≡ p.sheet)
    × (sink.taken after ≡ sink.taken before)

-- what a bench that asks for a number of this range came to with these answers: the first is taken or
-- passed over, and where no answer is left the run waits
abbrev pub AnswerIs : Benched → List ℤ → ℤ → ℤ → Benched
    → ControlFlow Closing (Bor (List ℤ)) → Type 0
AnswerIs b answers low high new (turns.Continue left) =
    (answer : ℤ) × (answers ≡ answer ∷ left.now) × IsSameRun b new × GoesOn b new None
    × ((TakesAnswer (setup_of b) b.state answer new.state × IsStepFrom b.state new.state)
    ⊎ ((¬ Fits low high answer) × (new.state ≡ b.state)))
AnswerIs b answers low high new (turns.Break closing) =
    (answers ≡ []) × (closing ≡ closings.Waiting low high) × (new ≡ b)

-- the sheet of the run was written
abbrev pub PutsSheet : {S : Type 0} → SinkView S → S → S → Assembly → Program → List ℤ → Outcome
    → Type 0
PutsSheet sink before after a program answers outcome =
    (output : List ℕ) × IsSheetOf a program answers output outcome × Takes sink before after output

-- a sink failed, and had taken a front of the sheet of the run
abbrev pub FailsInSheet : {S : Type 0} → SinkView S → S → S → Assembly → Program → List ℤ → Type 0
FailsInSheet sink before after a program answers =
    (output : List ℕ) × (outcome : Outcome) × IsSheetOf a program answers output outcome
    × FailsWithin sink before after output
