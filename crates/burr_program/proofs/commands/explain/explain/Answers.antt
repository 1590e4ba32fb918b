use Rattle.std.proofs.Common.{List, ℕ, refl, subst, inl, inr}
use Rattle.burr_judge.specs.declared.status.Status.TheVariants.{Done}
use Rattle.burr_program.specs.ExplainEnds.{IsExplainedBy, IsUnexplained}
use Rattle.burr_program.proofs.Results.{put_done, put_fails}
use Rattle.burr_program.proofs.commands.explain.explain.Goals as goal

pub returns-in_ok-put_explanation-in-Some : goal.returns-in_ok-put_explanation-in-Some
returns-in_ok-put_explanation-in-Some g c =
    let e = c.in-Some.known.now in
    let is : IsExplainedBy c.args.line.now e = subst (λ (l : List ℕ). IsExplainedBy l e) c.as_bytes.ensures.value c.in-Some.ensures in
    put_done (refl, refl, refl, (refl, (e, is, refl))) c.in_ok-put_explanation-in-Some.ensures

pub returns-in_err-put_explanation-in-Some : goal.returns-in_err-put_explanation-in-Some
returns-in_err-put_explanation-in-Some g c =
    let e = c.in-Some.known.now in
    let is : IsExplainedBy c.args.line.now e = subst (λ (l : List ℕ). IsExplainedBy l e) c.as_bytes.ensures.value c.in-Some.ensures in
    put_fails Done (refl, (e, is, refl)) c.in_err-put_explanation-in-Some.ensures c.from_residual.ensures.1

pub returns-in-None : goal.returns-in-None
returns-in-None g c = record { done = tt; stops = inr (inl (refl, (subst IsUnexplained c.as_bytes.ensures.value c.in-None.ensures, refl))) }
