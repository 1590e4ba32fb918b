-- For crates above: where a plan of a container is well framed, an entry frame stands at the first place.
use Rattle.std.proofs.Common.{◌≡◌, ◌⊎◌, ℕ, ℤ, ◌<◌, ◌≤◌, List, [], ◌∷◌, length, Some, refl, ap, ◌∙◌, inl, inr, arith}
use Rattle.std.specs.Prelude.{slice_get}
use Rattle.std.proofs.lemmas.Bool.{cases_order}
use Rattle.std.proofs.lemmas.Option.{none-some, same_Some, slice_get_within}
use Rattle.burr_voxels.specs.declared.cell.Cell.{Cell}
use Rattle.burr_container.specs.Rules.Plans.{Frame}
use Rattle.burr_frames.specs.Rules.FramedPlans.{FramedProcedure, FramedPlan}
use Rattle.burr_frames.specs.Rules.ControlRules.{entry_of, first_frame}
use Rattle.burr_verify.specs.Rules.WellFramed.{IsLabelled, IsWellFramed}
use Rattle.burr_verify.specs.Views.FromContainers.{IsFromContainer}

-- label 0 is the first
pub first_label : (labels : List (ℕ × Frame)) (f : Frame) → first_frame labels ≡ Some f
    → (label : ℕ × Frame) × (slice_get labels 0 ≡ Some label) × (label.1 ≡ f)
first_label [] f e = absurd (none-some f e)
first_label (label ∷ labels) f e = (label, refl, same_Some label.1 f e)

-- the frame of label 0 is that of a label at the first place
entry_labelled : (here : FramedProcedure) (f : Frame)
    → ((label : ℕ × Frame) → slice_get here.labels 0 ≡ Some label → label.0 ≡ 0) → entry_of here ≡ Some f
    → IsLabelled here 0 f
entry_labelled here f at_zero e =
    let first = first_label here.labels f e in
    let there = ap (λ (pc : ℕ). Some (pc, first.0.1)) (at_zero first.0 first.1) in
    (0, first.1 ∙ there ∙ ap (λ (g : Frame). Some (0, g)) first.2)

-- a frame of eight slots has no more than eight live ones
at_most : (m : ℕ) (f : Frame) → length f.slots ≡ 8
    → ((v : ℕ) → v < m → (range : ℤ × ℤ) × (slice_get f.slots v ≡ Some (Some range))) → m ≤ 8
at_most m f eight live = by_order (cases_order m 8)
  where
    by_order : (m ≡ 8) ⊎ ((m < 8) ⊎ (8 < m)) → m ≤ 8
    by_order (inl e) = omega arith
    by_order (inr (inl l)) = omega arith
    by_order (inr (inr l)) =
        let there = live 8 l in let within = slice_get_within f.slots 8 (Some there.0) there.1 in absurd (omega arith)

-- the frame of label 0 stands at the first place, and no slot is wanting for a parameter
pub entry_stands : (name : List ℕ) (homes : List (List Cell)) (plan : FramedPlan) → IsFromContainer plan
    → IsWellFramed name homes plan → (n : ℕ) (here : FramedProcedure) (f : Frame)
    → slice_get plan.procedures n ≡ Some here → entry_of here ≡ Some f
    → IsLabelled here 0 f × (here.parameters ≤ 8)
entry_stands name homes plan given framed n here f is e =
    let labelled = entry_labelled here f (λ label at. given.first n here label is at) e in
    let live = ((framed.each n here is).frames 0 f labelled).0.live in
    (labelled, at_most here.parameters f (given.eight n here is 0 f labelled) live)
