-- The version is no part of what a bench runs.
use Rattle.std.specs.Prelude.{ℤ, List, ℕ}
use Rattle.burr_assembly.specs.Rules.Text.{Assembly}
use Rattle.burr_container.specs.Rules.Plans.{Plan}
use Rattle.burr_container.specs.Rules.Plans.{upgraded}
use Rattle.burr_runs.specs.declared.text_runs.Outcome.{Outcome}
use Rattle.burr_runs.specs.Rules.Headline.{IsSafeSheetOf}
use Rattle.burr_runs.proofs.laws.an_upgraded_plan_runs_as_before.Goals as goal

as_before : (a : Assembly) (p : Plan) (answers : List ℤ) (output : List ℕ) (outcome : Outcome)
    → IsSafeSheetOf a (upgraded p) answers output outcome → IsSafeSheetOf a p answers output outcome
as_before a p answers output outcome s = record {
  motions = s.motions;
  steps = s.steps;
  closing = s.closing;
  run = s.run;
  safe = s.safe;
  text = s.text;
  closes = s.closes;
}

as_upgraded : (a : Assembly) (p : Plan) (answers : List ℤ) (output : List ℕ) (outcome : Outcome)
    → IsSafeSheetOf a p answers output outcome → IsSafeSheetOf a (upgraded p) answers output outcome
as_upgraded a p answers output outcome s = record {
  motions = s.motions;
  steps = s.steps;
  closing = s.closing;
  run = s.run;
  safe = s.safe;
  text = s.text;
  closes = s.closes;
}

pub returns : goal.returns
returns c = record {
  runs = λ a p answers motions steps closing. (λ h. h, λ h. h);
  sheet = λ a p answers output outcome. (as_before a p answers output outcome, as_upgraded a p answers output outcome);
}
