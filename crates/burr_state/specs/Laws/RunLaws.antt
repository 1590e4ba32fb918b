-- What holds of all runs.
use Rattle.std.specs.Prelude.{◌≡◌, ◌↔◌, ◌≤◌, ◌<◌, ◌^◌, ◌⊎◌, ◌++◌, ℕ, ℤ, List, Option, Result}
use Rattle.burr_state.specs.declared.effect.Mode.TheVariants.{Running, Ended}
use Rattle.burr_state.specs.declared.effect.Motion.{Motion}
use Rattle.burr_state.specs.Rules.Bench.{BenchState, Setup}
use Rattle.burr_state.specs.Rules.Next.{Next}
use Rattle.burr_state.specs.declared.effect.Progress.{Progress}
use Rattle.burr_state.specs.declared.effect.Trap.{Trap}
use Rattle.burr_state.specs.Rules.Step.{NextIs, Called}
use Rattle.burr_state.specs.Rules.Calls.{CallsTo}
use Rattle.burr_state.specs.Rules.Run.{Run}
use Rattle.burr_state.specs.declared.effect.Closing.{Closing}

-- one thing at most stands next at a state
abbrev pub OneNext : Type 0
OneNext =
    (setup : Setup) (s : BenchState) (next other : Next)
    → NextIs setup s next → NextIs setup s other → next ≡ other

-- something stands next at a state
abbrev pub SomeNext : Type 0
SomeNext = (setup : Setup) (s : BenchState) → (next : Next) × NextIs setup s next

-- a call of the bench tells one thing at most, and leaves one state
abbrev pub OneCall : Type 0
OneCall =
    (setup : Setup) (s new other : BenchState) (answer : Option ℤ)
    (result more : Result Progress Trap)
    → Called setup s answer result new → Called setup s answer more other
    → (result ≡ more) × (new ≡ other)

-- a call of the bench tells something, and leaves a state
abbrev pub SomeCall : Type 0
SomeCall =
    (setup : Setup) (s : BenchState) (answer : Option ℤ)
    → (result : Result Progress Trap) × (new : BenchState) × Called setup s answer result new

-- a run has one result at most
abbrev pub OneResult : Type 0
OneResult =
    (setup : Setup) (budget : ℕ) (s : BenchState) (answers : List ℤ)
    (motions others : List Motion) (steps count : ℕ) (closing other : Closing)
    → Run setup budget s answers motions steps closing
    → Run setup budget s answers others count other
    → (motions ≡ others) × (steps ≡ count) × (closing ≡ other)

-- a state that did not trap, within the budget
pub record IsUnderWay (budget : ℕ) (s : BenchState) : Type 0 where
  pub mode : (s.mode ≡ Running) ⊎ (s.mode ≡ Ended)
  pub within : s.steps ≤ budget

-- what a run from a state is
pub record RunOf (setup : Setup) (budget : ℕ) (s : BenchState) (answers : List ℤ) : Type 0 where
  pub motions : List Motion
  pub steps : ℕ
  pub closing : Closing
  pub run : Run setup budget s answers motions steps closing

-- a run has a result
abbrev pub SomeResult : Type 0
SomeResult =
    (setup : Setup) (budget : ℕ) (s : BenchState) (answers : List ℤ)
    → budget < 2 ^ 64 → IsUnderWay budget s → RunOf setup budget s answers

-- with more answers a run begins with the motions that it makes with fewer
abbrev pub MoreAnswersGoOn : Type 0
MoreAnswersGoOn =
    (setup : Setup) (budget : ℕ) (s : BenchState) (answers more : List ℤ)
    (motions all : List Motion) (steps count : ℕ) (closing other : Closing)
    → Run setup budget s answers motions steps closing
    → Run setup budget s (answers ++ more) all count other
    → (rest : List Motion) × (all ≡ motions ++ rest)

-- a run is such a chain of calls
abbrev pub RunIsCalls : Type 0
RunIsCalls =
    (setup : Setup) (budget : ℕ) (s : BenchState) (answers : List ℤ) (motions : List Motion)
    (steps : ℕ) (closing : Closing)
    → Run setup budget s answers motions steps closing
    ↔ CallsTo setup budget s answers motions steps closing
