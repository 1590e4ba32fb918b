-- The laws of the bytes of plans, and of containers.
use Rattle.std.specs.Prelude.{◌≡◌, ℕ, ◌<◌, List, ◌++◌, All, IsTrue, ◌⊎◌}
use Rattle.burr_container.specs.declared.fault.ContainerFault.{ContainerFault}
use Rattle.burr_container.specs.Rules.Plans.{Plan}
use Rattle.burr_container.specs.Rules.Spelling.{plan_bytes}
use Rattle.burr_container.specs.Rules.Fitting.{is_fitting}
use Rattle.burr_container.specs.Rules.Faults.{ContainerFails}
use Rattle.burr_container.specs.Views.Containers.{ContainerView, IsContainer, HasPlan}

-- Two plans that fit have one spelling only where they are one plan, and neither's spelling begins
-- the other's.
abbrev pub OnePlan : Type 0
OnePlan =
    (p q : Plan) (r s : List ℕ) → IsTrue (is_fitting p) → IsTrue (is_fitting q)
    → plan_bytes p ++ r ≡ plan_bytes q ++ s → (p ≡ q) × (r ≡ s)

-- these are a plan's bytes
abbrev pub IsSpelled : List ℕ → Type 0
IsSpelled bytes = (p : Plan) × IsTrue (is_fitting p) × (bytes ≡ plan_bytes p)

-- bytes have a first fault or are a plan's
abbrev pub FaultOrPlan : Type 0
FaultOrPlan =
    (bytes : List ℕ) → All (λ b. b < 256) bytes
    → IsSpelled bytes ⊎ ((fault : ContainerFault) × ContainerFails 0 bytes fault)

-- never both
abbrev pub NoFaultOfPlan : Type 0
NoFaultOfPlan =
    (bytes : List ℕ) (fault : ContainerFault) → IsSpelled bytes → ¬ ContainerFails 0 bytes fault

-- and no two faults
abbrev pub OneFault : Type 0
OneFault =
    (bytes : List ℕ) (a b : ContainerFault)
    → ContainerFails 0 bytes a → ContainerFails 0 bytes b → a ≡ b

-- A container is that of one plan: what is said of any plan of it is said of that one.
abbrev pub ContainerOfOnePlan : Type 0
ContainerOfOnePlan =
    (kept : ContainerView) (p q : Plan) → HasPlan kept → IsContainer kept p → IsContainer kept q
    → p ≡ q

-- and that plan is within the format
abbrev pub ContainedPlanFits : Type 0
ContainedPlanFits =
    (kept : ContainerView) (p : Plan) → HasPlan kept → IsContainer kept p → IsTrue (is_fitting p)
