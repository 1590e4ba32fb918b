-- Procedures of a container that are called: what is read of them in place is the plan's.
use Rattle.std.proofs.Common.{◌≡◌, ℕ, ◌<◌, ◌≤◌, List, [], ◌∷◌, length, map, Some, None, refl, sym, ap, ◌∙◌, arith, slice_get, lt-ltb, le-ltb}
use Rattle.std.specs.Prelude.{option_map}
use Rattle.std.proofs.lemmas.List.{length-map}
use Rattle.std.proofs.lemmas.Option.{none-some, same_Some, slice_get-map, slice_get_past}
use Rattle.burr_code.specs.Labels.{callee_of}
use Rattle.burr_container.specs.declared.frame_ref.FrameRef.{FrameRef}
use Rattle.burr_container.specs.declared.procedure_ref.ProcedureRef.{ProcedureRef}
use Rattle.burr_container.specs.Rules.Plans.{Frame, PlanProcedure, Plan}
use Rattle.burr_container.specs.Views.Containers.{ContainerView, IsContainer}
use Rattle.burr_container.specs.Views.Lent.{IsLent}
use Rattle.burr_container.specs.Views.Refs.{frame_of}
use Rattle.burr_frames.specs.Rules.FramedPlans.{FramedProcedure, framed, framed_procedure}
use Rattle.burr_frames.specs.Rules.ControlRules.{first_frame}
use Rattle.burr_frames.specs.Views.Here.{IsFrameFound}
use Rattle.burr_frames.proofs.Common.Heres.{element_at, lent_is, lent_at}

-- Procedures

-- a procedure of no higher number is no callee, nor is one that there is not
pub no_callee_below : (all : List FramedProcedure) (n callee : ℕ) → callee ≤ n → callee_of all n callee ≡ None
no_callee_below all n callee below = rw (le-ltb n callee below) refl

pub no_callee_past : (procedures : List PlanProcedure) (n callee : ℕ) → length procedures ≤ callee
    → callee_of (map framed_procedure procedures) n callee ≡ None
no_callee_past procedures n callee past =
    let many = length-map procedures framed_procedure in
    grind (arith, slice_get_past (map framed_procedure procedures) callee (omega (arith, many, past)))

-- a callee that a container lends, in the container's plan
pub record IsLentCallee (p : Plan) (n callee : ℕ) (r : ProcedureRef) : Type 0 where
  pub procedure : PlanProcedure
  pub is : IsContainer r.container.now p
  pub at : slice_get p.procedures r.number ≡ Some procedure
  pub framed : slice_get (map framed_procedure p.procedures) r.number ≡ Some (framed_procedure procedure)
  pub called : callee_of (map framed_procedure p.procedures) n callee ≡ Some (framed_procedure procedure)

pub lent_callee : (p : Plan) (kept : ContainerView) (n callee : ℕ) (r : ProcedureRef) → IsContainer kept p
    → n < callee → callee < length p.procedures → IsLent kept callee r → IsLentCallee p n callee r
lent_callee p kept n callee r is higher few lent =
    let there = element_at p.procedures callee few in
    let framed : slice_get (map framed_procedure p.procedures) callee ≡ Some (framed_procedure there.0) =
    slice_get-map framed_procedure p.procedures callee ∙ ap (option_map framed_procedure) there.1 in
    record {
      procedure = there.0;
      is = lent_is kept callee r p lent is;
      at = lent_at p.procedures kept callee r there.0 lent there.1;
      framed = lent_at (map framed_procedure p.procedures) kept callee r (framed_procedure there.0) lent framed;
      called = rw (lt-ltb n callee higher) framed;
    }

-- Entry frames

pub no_entry : (labels : List (ℕ × Frame)) → slice_get labels 0 ≡ None → first_frame labels ≡ None
no_entry [] none = refl
no_entry (label ∷ labels) none = absurd (none-some label (sym none))

pub entry_there : (labels : List (ℕ × Frame)) (f : FrameRef) → IsFrameFound (slice_get labels 0) f
    → first_frame labels ≡ Some (framed (frame_of f))
entry_there [] f found = absurd (none-some (found.0, framed (frame_of f)) found.1)
entry_there (label ∷ labels) f found =
    ap (λ (l : ℕ × Frame). Some l.1) (same_Some label (found.0, framed (frame_of f)) found.1)
