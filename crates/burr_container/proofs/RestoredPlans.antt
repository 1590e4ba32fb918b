-- Procedures that are restored one by one.
use Rattle.std.proofs.Common.{◌≡◌, ℕ, ◌<◌, Option, Some, None, length, refl, ap, ◌∙◌, arith}
use Rattle.std.specs.Prelude.{IfSome}
use Rattle.burr_container.specs.declared.frame_ref.ExitRef.{ExitRef}
use Rattle.burr_container.specs.declared.procedure_ref.StoredProcedure.{StoredProcedure}
use Rattle.burr_container.specs.Rules.Plans.{ExitFrame}
use Rattle.burr_container.specs.Views.Refs.{exit_frame_of}
use Rattle.burr_container.specs.Views.InPlace.{IsExit}

-- a label below their count is there
pub has_label : (o : Option StoredProcedure) (n count : ℕ) → IfSome o (λ p. count ≡ length p.labels.starts)
    → n < count → IfSome o (λ p. n < length p.labels.starts)
has_label None n count is less = tt
has_label (Some p) n count is less = omega (arith, is, less)

-- where no exit frame is stored, the plan has no exit frame
pub no_exit : (pieces parameters results : ℕ) (exit : Option ExitFrame) → IsExit pieces parameters results None exit
    → None ≡ exit
no_exit pieces parameters results None is = refl
no_exit pieces parameters results (Some f) is = absurd is

-- the exit frame of the plan
pub its_exit : (pieces parameters results : ℕ) (kept : ExitRef) (exit : Option ExitFrame) (f : ExitFrame)
    → IsExit pieces parameters results (Some kept) exit → f ≡ exit_frame_of kept → Some f ≡ exit
its_exit pieces parameters results kept None f is same = absurd is
its_exit pieces parameters results kept (Some g) f is same = ap Some (same ∙ is.frame)
