-- Procedures that a container lends, each as one value.
use Rattle.std.specs.Prelude.{◌≡◌, ◌≤◌, ◌<◌, ℕ, length, Option, MatchOption}
use Rattle.burr_container.specs.declared.procedure_ref.ProcedureRef.{ProcedureRef}
use Rattle.burr_container.specs.Rules.Plans.{Plan, PlanProcedure, Frame}
use Rattle.burr_container.specs.Views.Containers.{ContainerView, IsContainer, OfProcedure, OfLabel, HasLabel}

-- procedure n of the container is lent
pub record IsLent (kept : ContainerView) (n : ℕ) (r : ProcedureRef) : Type 0 where
  pub container : r.container.now ≡ kept
  pub number : r.number ≡ n

-- in the container of a procedure one of this number is found just where the plan has it
abbrev pub IsFoundInPlan : ProcedureRef → ℕ → Option ProcedureRef → Type 0
IsFoundInPlan r number found =
    (p : Plan) → IsContainer r.container.now p
    → MatchOption found (length p.procedures ≤ number) (λ _. number < length p.procedures)

-- it holds of the procedure in its container's plan
abbrev pub OfLent : ProcedureRef → (Plan → PlanProcedure → Type 0) → Type 0
OfLent r Holds = OfProcedure r.container.now r.number Holds

-- the procedure has a label n
abbrev pub LentHasLabel : ProcedureRef → ℕ → Type 0
LentHasLabel r n = HasLabel r.container.now r.number n

-- it holds of label n of the procedure in its container's plan
abbrev pub OfLentLabel : ProcedureRef → ℕ → (ℕ × Frame → Type 0) → Type 0
OfLentLabel r n Holds = OfLabel r.container.now r.number n Holds
