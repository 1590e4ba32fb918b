-- A run step by step: what its commands fix, and what each of them comes to.
use Rattle.std.specs.Prelude.{◌≡◌, ◌≢◌, ◌⊎◌, ℕ, suc, ◌+◌, ◌-◌, ◌≤◌, ℤ, List, [], ◌∷◌, ◌++◌, length, Option, Some, None, Ok}
use Rattle.burr_text.specs.Checks.{needs}
use Rattle.burr_state.specs.declared.effect.Mode.TheVariants.{Ended}
use Rattle.burr_state.specs.declared.effect.Motion.{Motion}
use Rattle.burr_state.specs.declared.effect.Progress.TheVariants as progress
use Rattle.burr_state.specs.Rules.Bench.{BenchState, IsLabelAt, Setup, start}
use Rattle.burr_state.specs.Rules.Questions.{Fits}
use Rattle.burr_state.specs.Rules.Step.{AsksNow, Called}

-- This many steps lead from a state to another, and take exactly these answers.
pub data Leads (setup : Setup) : BenchState → ℕ → List ℤ → BenchState → Type 0 where
  stays : (s : BenchState) → Leads setup s 0 [] s
  goes : (s new last : BenchState) (motion : Option Motion) (steps : ℕ) (answers : List ℤ)
      → Called setup s None (Ok (progress.Went motion)) new
      → Leads setup new steps answers last → Leads setup s (suc steps) answers last
  takes : (s new last : BenchState) (answer : ℤ) (steps : ℕ) (answers : List ℤ)
      → Called setup s (Some answer) (Ok (progress.Went None)) new
      → Leads setup new steps answers last → Leads setup s (suc steps) (answer ∷ answers) last

-- what the commands so far fix: how many steps are made, and the answers that these took
pub record History : Type 0 where
  pub steps : ℕ
  pub answers : List ℤ

abbrev pub history : ℕ → List ℤ → History
history steps answers = record { steps = steps; answers = answers }

-- the stepper's state: the one to which these steps and answers lead from the start
abbrev pub IsStateOf : Setup → History → BenchState → Type 0
IsStateOf setup h s = Leads setup (start setup) h.steps h.answers s

-- Where a run stands

-- it waits for an answer
abbrev pub IsAsking : Setup → BenchState → Type 0
IsAsking setup s = (low high : ℤ) × AsksNow setup s low high

-- it has ended, or waits for an answer
abbrev pub IsHalted : Setup → BenchState → Type 0
IsHalted setup s = (s.mode ≡ Ended) ⊎ IsAsking setup s

-- how many activations there are
abbrev pub depth_of : BenchState → ℕ
depth_of s = suc (length s.callers)

-- it has halted, or no activation above this depth is left
abbrev pub StopsOver : Setup → ℕ → BenchState → Type 0
StopsOver setup depth s = IsHalted setup s ⊎ (depth_of s ≤ depth)

-- it has halted, or stands at this position of this procedure
abbrev pub StopsAt : Setup → ℕ → ℕ → BenchState → Type 0
StopsAt setup procedure position s =
    IsHalted setup s ⊎ ((s.running.procedure ≡ procedure) × (s.running.pc ≡ position))

-- one step without an answer
abbrev pub Goes : Setup → BenchState → BenchState → Type 0
Goes setup s new = (motion : Option Motion) × Called setup s None (Ok (progress.Went motion)) new

-- This many such steps, at least one, lead to the first state after one of them for which
-- `IsSo` holds.
pub data GoesUntil (setup : Setup) (IsSo : BenchState → Type 0) : BenchState → ℕ → BenchState
    → Type 0 where
  there : (s new : BenchState) → Goes setup s new → IsSo new → GoesUntil setup IsSo s 1 new
  farther : (s new last : BenchState) (steps : ℕ) → Goes setup s new → (¬ IsSo new)
      → GoesUntil setup IsSo new steps last → GoesUntil setup IsSo s (suc steps) last

-- Commands

pub data StepCommand : Type 0 where
  Forward : StepCommand
  Over : StepCommand
  Until : (procedure label : ℕ) → StepCommand
  Answer : (answer : ℤ) → StepCommand
  Back : (steps : ℕ) → StepCommand

-- S1: the run has ended; S2: it waits for an answer; S3: nothing is asked, or the answer doesn't
-- fit; S4: fewer steps were made than are to be undone
pub data StepRefusal : Type 0 where
  S1 : StepRefusal
  S2 : StepRefusal
  S3 : StepRefusal
  S4 : StepRefusal

pub data StepOutcome : Type 0 where
  Taken : (h : History) (s : BenchState) → StepOutcome
  Refused : (refusal : StepRefusal) → StepOutcome

abbrev pub Follows : Type 1
Follows = StepOutcome → Type 0

-- this many steps more, without an answer
abbrev pub farther_by : ℕ → History → History
farther_by steps h = history (h.steps + steps) h.answers

-- the run goes on: it has not ended, and does not wait
abbrev pub going : Setup → BenchState → Follows → Follows
going setup s rest =
    needs (s.mode ≢ Ended) (Refused S1) (needs (¬ IsAsking setup s) (Refused S2) rest)

-- steps up to the first state for which `IsSo` holds
abbrev pub going_until : Setup → History → BenchState → (BenchState → Type 0) → Follows
going_until setup h s IsSo outcome =
    (steps : ℕ) × (new : BenchState) × GoesUntil setup IsSo s steps new
    × (outcome ≡ Taken (farther_by steps h) new)

-- the first of the steps are kept, with the answers that these took, and lead to this state
pub record IsKept (setup : Setup) (h kept : History) (s : BenchState) : Type 0 where
  pub state : IsStateOf setup kept s
  pub later : List ℤ
  pub answers : h.answers ≡ kept.answers ++ later

-- What a command comes to, after these steps and answers, in this state.
abbrev pub Commanding : Setup → History → BenchState → StepCommand → Follows
Commanding setup h s Forward =
    going setup s λ outcome.
    (new : BenchState) × Goes setup s new × (outcome ≡ Taken (farther_by 1 h) new)
Commanding setup h s Over = going setup s (going_until setup h s (StopsOver setup (depth_of s)))
Commanding setup h s (Until procedure label) =
    going setup s λ outcome.
    (position : ℕ) × IsLabelAt setup procedure label position
    × going_until setup h s (StopsAt setup procedure position) outcome
Commanding setup h s (Answer answer) =
    needs (s.mode ≢ Ended) (Refused S1)
    (needs ((low high : ℤ) × AsksNow setup s low high × Fits low high answer) (Refused S3)
    λ outcome.
    (new : BenchState) × Called setup s (Some answer) (Ok (progress.Went None)) new
    × (outcome ≡ Taken (history (h.steps + 1) (h.answers ++ answer ∷ [])) new))
Commanding setup h s (Back steps) =
    needs (steps ≤ h.steps) (Refused S4) λ outcome.
    (answers : List ℤ) × (new : BenchState)
    × IsKept setup h (history (h.steps - steps) answers) new
    × (outcome ≡ Taken (history (h.steps - steps) answers) new)

-- what a command leaves: a refused one leaves all as before
abbrev pub history_left : History → StepOutcome → History
history_left h (Taken new s) = new
history_left h (Refused refusal) = h

abbrev pub state_left : BenchState → StepOutcome → BenchState
state_left s (Taken h new) = new
state_left s (Refused refusal) = s

-- these commands lead from the start to this state
pub data Commanded (setup : Setup) : List StepCommand → History → BenchState → Type 0 where
  unmoved : Commanded setup [] (history 0 []) (start setup)
  commanded : (commands : List StepCommand) (command : StepCommand) (h : History) (s : BenchState)
      (outcome : StepOutcome) → Commanded setup commands h s
      → Commanding setup h s command outcome
      → Commanded setup (commands ++ command ∷ []) (history_left h outcome) (state_left s outcome)
