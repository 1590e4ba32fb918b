use Rattle.std.proofs.Common.{subst}
use Rattle.std.proofs.lemmas.Result.{err_from_is_err_and}
use Rattle.burr_assembly.specs.Rules.Homes.{homes_of}
use Rattle.burr_blocking.specs.Rules.Counted.{Counted}
use Rattle.burr_frames.specs.Rules.FramedPlans.{framed_plan}
use Rattle.burr_verify.specs.Rules.Judging.{Judging}
use Rattle.burr_verify.specs.Rules.Pass.{Refuses}
use Rattle.burr_verify.specs.Views.Judgements.{failed_check}
use Rattle.burr_verify.proofs.accepting.accept_counted.Goals as goal

pub returns-in_err-verify_counted-clause-err : goal.returns-in_err-verify_counted-clause-err
returns-in_err-verify_counted-clause-err g c =
    let e = err_from_is_err_and c.from_residual.result c.from_residual.ensures.1 in
    rw (e.1, e.2)
    (λ p is. subst (λ (l : Counted). Judging l.assembly.name (homes_of l.assembly) (framed_plan p)
    (Refuses (failed_check c.in_err-verify_counted.field-0.0))) c.new-looks.ensures (c.in_err-verify_counted.ensures.judged p is))
