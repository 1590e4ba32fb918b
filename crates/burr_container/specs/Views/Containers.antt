-- What a container stands for.
use Rattle.std.specs.Prelude.{◌≡◌, ◌<◌, ℕ, List, length, Some, IfSome, Result, MatchResult, slice_get, IsTrue}
use Rattle.burr_container.specs.declared.fault.ContainerFault.{ContainerFault}
use Rattle.burr_container.specs.declared.container.Header.{Header}
use Rattle.burr_container.specs.declared.procedure_ref.StoredProcedure.{StoredProcedure}
use Rattle.burr_container.specs.Rules.Plans.{Plan, PlanProcedure, Frame}
use Rattle.burr_container.specs.Rules.Spelling.{plan_bytes}
use Rattle.burr_container.specs.Rules.Fitting.{is_fitting}
use Rattle.burr_container.specs.Rules.Faults.{ContainerFails}
use Rattle.burr_container.specs.Views.InPlace.{AreFor, IsProcedure}

-- a container, read in place
pub record ContainerView : Type 0 where
  pub header : Header
  pub procedures : List StoredProcedure

abbrev pub container_view : Header → List StoredProcedure → ContainerView
container_view header procedures = record { header = header; procedures = procedures }

pub record IsHeader (h : Header) (p : Plan) : Type 0 where
  pub version : h.version ≡ p.version
  pub budget : h.budget ≡ p.budget
  pub pieces : h.pieces ≡ p.pieces
  pub name : h.name.now ≡ p.name

-- the container is that of the plan
pub record IsContainer (kept : ContainerView) (p : Plan) : Type 0 where
  pub header : IsHeader kept.header p
  pub procedures : AreFor (IsProcedure p.pieces) kept.procedures p.procedures

-- it is the container of a plan within the format
abbrev pub HasPlan : ContainerView → Type 0
HasPlan kept = (p : Plan) × IsTrue (is_fitting p) × IsContainer kept p

-- the bytes are those of a plan within the format, and the container is that plan's; or how they
-- fail
abbrev pub ReadsContainer : List ℕ → Result ContainerView ContainerFault → Type 0
ReadsContainer bytes result =
    MatchResult result
    (λ kept. (p : Plan) × IsTrue (is_fitting p) × (bytes ≡ plan_bytes p) × IsContainer kept p)
    (λ fault. ContainerFails 0 bytes fault)

-- procedure i of the container has a label n
abbrev pub HasLabel : ContainerView → ℕ → ℕ → Type 0
HasLabel kept i n =
    IfSome (slice_get kept.procedures i) (λ p. n < length p.labels.starts)

-- it holds of procedure i of the container's plan
abbrev pub OfProcedure : ContainerView → ℕ → (Plan → PlanProcedure → Type 0) → Type 0
OfProcedure kept i Holds =
    (p : Plan) (q : PlanProcedure) → IsContainer kept p → slice_get p.procedures i ≡ Some q
    → Holds p q

-- it holds of label n of procedure i of the container's plan
abbrev pub OfLabel : ContainerView → ℕ → ℕ → (ℕ × Frame → Type 0) → Type 0
OfLabel kept i n Holds =
    OfProcedure kept i (λ p q. (l : ℕ × Frame) → slice_get q.labels n ≡ Some l → Holds l)
