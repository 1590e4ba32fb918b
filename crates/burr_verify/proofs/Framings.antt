-- What is judged of a container's plan tells whether it is well framed.
use Rattle.std.proofs.Common.{ℕ, List, refl, Ok, Err}
use Rattle.std.specs.Prelude.{◌↔◌, ⊤, Result, IsOk}
use Rattle.std.proofs.lemmas.Bool.{false≢true}
use Rattle.burr_voxels.specs.declared.cell.Cell.{Cell}
use Rattle.burr_container.specs.Rules.Plans.{Plan}
use Rattle.burr_container.specs.Views.Containers.{ContainerView, IsContainer, HasPlan}
use Rattle.burr_frames.specs.Rules.FramedPlans.{framed_plan}
use Rattle.burr_verify.specs.declared.refusal.Refusal.{Refusal}
use Rattle.burr_verify.specs.Rules.Judging.{Judging}
use Rattle.burr_verify.specs.Views.Judgements.{judgement_of, failed_check}
use Rattle.burr_verify.specs.Rules.WellFramed.{IsWellFramed}
use Rattle.burr_verify.proofs.VerifyLaws.{passed_exactly}
use Rattle.burr_verify.proofs.Containers.{fitting_is_from_container}
use Rattle.burr_container.proofs.Common.OneContainer.{fits_where_kept}
use Rattle.burr_verify.proofs.PassCuts.{refuses-passed}

pub framed_exactly : (kept : ContainerView) (name : List ℕ) (homes : List (List Cell)) (p : Plan)
    (result : Result ⊤ Refusal) → HasPlan kept → IsContainer kept p
    → Judging name homes (framed_plan p) (judgement_of result)
    → IsOk result ↔ IsWellFramed name homes (framed_plan p)
framed_exactly kept name homes p (Ok u) has is judged =
    let exact = passed_exactly name homes (framed_plan p) _
    (fitting_is_from_container p (fits_where_kept kept p has is)).laid_out judged in
    ((λ ok. exact.0 refl), (λ framed. refl))
framed_exactly kept name homes p (Err r) has is judged =
    let exact = passed_exactly name homes (framed_plan p) _
    (fitting_is_from_container p (fits_where_kept kept p has is)).laid_out judged in
    ((λ ok. absurd (false≢true ok)), (λ framed. absurd (refuses-passed (failed_check r) (exact.1 framed))))
