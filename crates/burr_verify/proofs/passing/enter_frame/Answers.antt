use Rattle.std.proofs.Common.{refl}
use Rattle.std.proofs.lemmas.Result.{err_from_is_err_and}
use Rattle.burr_verify.proofs.passing.enter_frame.Goals as goal
use Rattle.burr_verify.proofs.passing.enter_frame.Goals.{in-None, in-Some+in_ok-there-in-Some}

pub returns-in_err-there-in-Some-clause-verdict : goal.returns-in_err-there-in-Some-clause-verdict
returns-in_err-there-in-Some-clause-verdict c =
    let p = err_from_is_err_and c.from_residual.result c.from_residual.ensures.1 in
    rw (c.in-Some.is, p.1, p.2) c.in_err-there-in-Some.ensures.verdict

pub returns-clause-verdict : goal.returns-clause-verdict
returns-clause-verdict c = elim c.match-state.branch [
  | in-None w ↦ rw w.in-None.is refl
  | in-Some+in_ok-there-in-Some w ↦ rw w.in-Some.is w.in_ok-there-in-Some.ensures.verdict
]
