-- Laws of the judgement of plans.
use Rattle.std.specs.Prelude.{◌≡◌, ◌⊎◌, ◌↔◌, ℕ, ◌<◌, List, Some, slice_get, IsTrue}
use Rattle.burr_voxels.specs.declared.cell.Cell.{Cell}
use Rattle.burr_container.specs.Rules.Fitting.{is_fitting}
use Rattle.burr_container.specs.Rules.Plans.{Plan}
use Rattle.burr_frames.specs.Rules.FramedPlans.{FramedProcedure, FramedPlan, framed_plan}
use Rattle.burr_verify.specs.Views.FromContainers.{IsFromContainer}
use Rattle.burr_verify.specs.Rules.Fronts.{IsFirstFailure}
use Rattle.burr_verify.specs.Rules.Judging.{Judging, judging_before, judging_code, passes, nothing}
use Rattle.burr_verify.specs.Rules.Pass.{Judgement, Passed, Refuses, FailedCheck, pass_start, Pass, IsLaidOut, AllLaidOut}
use Rattle.burr_verify.specs.Rules.WellFramed.{Annotated, IsCut, IsWellFramed}

-- a pass comes to exactly one judgement
abbrev pub OnePass : Type 0
OnePass =
    (homes : List (List Cell)) (plan : FramedPlan) (n : ℕ) (here : FramedProcedure) → IsLaidOut here
    → ((j : Judgement) × Pass homes plan n here pass_start j)
    × ((j k : Judgement) → Pass homes plan n here pass_start j → Pass homes plan n here pass_start k
    → j ≡ k)

-- the pass finds nothing wrong exactly where there is a cut
abbrev pub PassIsCut : Type 0
PassIsCut =
    (homes : List (List Cell)) (plan : FramedPlan) (n : ℕ) (here : FramedProcedure) → IsLaidOut here
    → Pass homes plan n here pass_start Passed
    ↔ ((rows : List Annotated) × IsCut homes plan n here rows)

-- the pass refuses exactly with the first check that fails
abbrev pub RefusalIsFirst : Type 0
RefusalIsFirst =
    (homes : List (List Cell)) (plan : FramedPlan) (n : ℕ) (here : FramedProcedure)
    (r : FailedCheck) → IsLaidOut here
    → Pass homes plan n here pass_start (Refuses r) ↔ IsFirstFailure homes plan n here r

-- a plan has exactly one judgement
abbrev pub OneJudging : Type 0
OneJudging = (name : List ℕ) (homes : List (List Cell)) (plan : FramedPlan) → AllLaidOut plan
    → ((j : Judgement) × Judging name homes plan j)
    × ((j k : Judgement) → Judging name homes plan j → Judging name homes plan k → j ≡ k)

-- nothing is wrong with a plan exactly where it is well framed
abbrev pub JudgingIsFraming : Type 0
JudgingIsFraming =
    (name : List ℕ) (homes : List (List Cell)) (plan : FramedPlan) → AllLaidOut plan
    → Judging name homes plan Passed ↔ IsWellFramed name homes plan

-- where the judgement of the code refuses, each earlier procedure is cut, and in this one it is the
-- first check that fails
abbrev pub RefusedInCode : List (List Cell) → FramedPlan → FailedCheck → Type 0
RefusedInCode homes plan r =
    (k : ℕ) × (here : FramedProcedure) × (slice_get plan.procedures k ≡ Some here)
    × ((m : ℕ) (there : FramedProcedure) → m < k → slice_get plan.procedures m ≡ Some there
    → (rows : List Annotated) × IsCut homes plan m there rows) × IsFirstFailure homes plan k here r

abbrev pub CodeRefusalIsFirst : Type 0
CodeRefusalIsFirst =
    (homes : List (List Cell)) (plan : FramedPlan) (r : FailedCheck) → AllLaidOut plan
    → judging_code homes plan 0 plan.procedures passes (Refuses r) ↔ RefusedInCode homes plan r

-- a check before the code fails, those before it hold, and it is named
abbrev pub RefusedBefore : List ℕ → List (List Cell) → FramedPlan → FailedCheck → Type 0
RefusedBefore name homes plan r = judging_before name homes plan nothing (Refuses r)

-- all checks before the code hold
abbrev pub HoldsBefore : List ℕ → List (List Cell) → FramedPlan → Type 0
HoldsBefore name homes plan = judging_before name homes plan passes Passed

-- a refusal names the first check that fails: one before the code, or one of the code where all
-- those hold
abbrev pub JudgingRefuses : Type 0
JudgingRefuses =
    (name : List ℕ) (homes : List (List Cell)) (plan : FramedPlan) (r : FailedCheck)
    → AllLaidOut plan
    → Judging name homes plan (Refuses r)
    ↔ (RefusedBefore name homes plan r ⊎ (HoldsBefore name homes plan × RefusedInCode homes plan r))

-- a plan within the format has what containers promise
abbrev pub FittingIsFromContainer : Type 0
FittingIsFromContainer = (p : Plan) → IsTrue (is_fitting p) → IsFromContainer (framed_plan p)
