-- The laws of plans of version 1 in version 2.
use Rattle.std.specs.Prelude.{◌≡◌, [], All, IfSome, IsTrue}
use Rattle.burr_container.specs.Rules.Plans.{Plan, PlanProcedure, upgraded}
use Rattle.burr_container.specs.Rules.Fitting.{is_fitting}

-- no results, and in the exit frame no ranges and no guards
abbrev pub HasNoResults : PlanProcedure → Type 0
HasNoResults q = (q.results ≡ 0) × IfSome q.exit (λ f. (f.results ≡ []) × (f.guards ≡ []))

-- each procedure of a plan of version 1 has no results
abbrev pub FirstVersionHasNoResults : Type 0
FirstVersionHasNoResults =
    (p : Plan) → IsTrue (is_fitting p) → p.version ≡ 1 → All HasNoResults p.procedures

-- the plan in version 2 is within the format
abbrev pub StaysFitting : Type 0
StaysFitting = (p : Plan) → IsTrue (is_fitting p) → IsTrue (is_fitting (upgraded p))

-- a plan of version 2 stays what it is
abbrev pub SecondVersionStays : Type 0
SecondVersionStays = (p : Plan) → p.version ≡ 2 → upgraded p ≡ p
