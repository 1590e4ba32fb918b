-- The headline: what is written for an accepted plan.
use Rattle.std.specs.Prelude.{◌≡◌, ◌⊎◌, ℕ, ℤ, List}
use Rattle.burr_io.specs.Sink.{SinkView, Takes, FailsWithin}
use Rattle.burr_assembly.specs.Rules.Text.{Assembly}
use Rattle.burr_assembly.specs.Rules.Homes.{homes_of, names_of}
use Rattle.burr_container.specs.Rules.Plans.{Plan}
use Rattle.burr_container.specs.Views.Containers.{IsContainer}
use Rattle.burr_state.specs.declared.effect.Closing.{Closing}
use Rattle.burr_state.specs.declared.effect.Motion.{Motion}
use Rattle.burr_state.specs.Rules.Bench.{Setup, running, start}
use Rattle.burr_state.specs.Views.Programs.{plan_program}
use Rattle.burr_state.specs.Rules.Run.{Run}
use Rattle.burr_bench.specs.Soundness.SafeRuns.{IsSafeRun}
use Rattle.burr_sheet.specs.Rules.SheetText.{sheet}
use Rattle.burr_verify.specs.Rules.Accepting.{Judged}
use Rattle.burr_runs.specs.declared.text_runs.Outcome.{Outcome}
use Rattle.burr_runs.specs.declared.text_runs.Outcome.TheVariants as outcomes
use Rattle.burr_runs.specs.Rules.Output.{outcome_of}

-- the bench that runs a plan on an assembly
abbrev pub setup_for : Assembly → Plan → Setup
setup_for a p = running (homes_of a) (plan_program p)

-- The sheet of the run of a plan on an assembly, with these answers, and how it ends; and the run is
-- safe: it meets no trap, makes no more steps than the budget, and ends with every piece apart or
-- waits for an answer when all of these are used.
pub record IsSafeSheetOf (a : Assembly) (p : Plan) (answers : List ℤ) (output : List ℕ)
    (outcome : Outcome) : Type 0 where
  pub motions : List Motion
  pub steps : ℕ
  pub closing : Closing
  pub run : Run (setup_for a p) p.budget (start (setup_for a p)) answers motions steps closing
  pub safe : IsSafeRun (setup_for a p) p.budget (start (setup_for a p)) answers motions steps
      closing
  pub text : output ≡ sheet (names_of a) motions steps closing
  pub closes : outcome ≡ outcome_of closing

-- a sink took the sheet of the safe run of the container's plan
abbrev pub PutsSafely : {S : Type 0} → SinkView S → S → S → Judged → List ℤ → Outcome → Type 0
PutsSafely sink before after j answers outcome =
    (p : Plan) × IsContainer j.container p × (output : List ℕ)
    × IsSafeSheetOf j.assembly p answers output outcome × Takes sink before after output

-- a sink failed, and had taken a front of that sheet
abbrev pub FailsSafely : {S : Type 0} → SinkView S → S → S → Judged → List ℤ → Type 0
FailsSafely sink before after j answers =
    (p : Plan) × IsContainer j.container p × (output : List ℕ) × (outcome : Outcome)
    × IsSafeSheetOf j.assembly p answers output outcome × FailsWithin sink before after output

-- all pieces are apart, or the run waits for an answer
abbrev pub EndsWell : Outcome → Type 0
EndsWell outcome = (outcome ≡ outcomes.Apart) ⊎ (outcome ≡ outcomes.Waiting)
