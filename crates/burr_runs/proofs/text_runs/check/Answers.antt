-- The line of an accepted plan, with main's cost, the header's budget and the looks.
use Rattle.std.proofs.Common.{◌≡◌, ℕ, true, ap, subst}
use Rattle.burr_assembly.specs.Rules.Text.{Assembly}
use Rattle.burr_container.specs.Views.Containers.{ContainerView}
use Rattle.burr_container.specs.declared.container.Header.{Header}
use Rattle.burr_text.proofs.Common.Tests.{on_err}
use Rattle.burr_verify.specs.Rules.Accepting.{Judged, judged, IsAccepted, MainCosts}
use Rattle.burr_runs.specs.Rules.Verdicts.{accepted_line, IsPassedBy, IsVerdictLine}
use Rattle.burr_runs.proofs.text_runs.check.Goals as goal

accepted_verdict : (kept : ContainerView) (a : Assembly) (j : Judged) (cost looks : ℕ) (header : Header)
    → j ≡ judged kept a → IsAccepted j → MainCosts j cost → IsPassedBy kept a looks
    → header ≡ kept.header → IsVerdictLine kept a true (accepted_line cost header.budget looks)
accepted_verdict kept a j cost looks header same accepted costs passed same_header = (
  subst IsAccepted same accepted,
  cost,
  looks,
  subst (λ (k : Judged). MainCosts k cost) same costs,
  passed,
  ap (λ (h : Header). accepted_line cost h.budget looks) same_header,
)

pub returns-in_err-put_accepted-in-Ok-clause-err : goal.returns-in_err-put_accepted-in-Ok-clause-err
returns-in_err-put_accepted-in-Ok-clause-err g c =
    let verdict = accepted_verdict c.args.container.now (g.B.Blocking.subject c.args.blocking.now) c.in-Ok.accepted.judged c.cost.result c.in-Ok.looks c.header-budget.result c.in-Ok.ensures.ok c.in-Ok.ensures.accepted c.cost.ensures c.in-Ok.ensures.looked c.header-budget.ensures.header in
    on_err c.from_residual.result (true, _, verdict, c.in_err-put_accepted-in-Ok.ensures.err)

pub returns-in_ok-put_accepted-in-Ok-clause-ok : goal.returns-in_ok-put_accepted-in-Ok-clause-ok
returns-in_ok-put_accepted-in-Ok-clause-ok g c =
    let verdict = accepted_verdict c.args.container.now (g.B.Blocking.subject c.args.blocking.now) c.in-Ok.accepted.judged c.cost.result c.in-Ok.looks c.header-budget.result c.in-Ok.ensures.ok c.in-Ok.ensures.accepted c.cost.ensures c.in-Ok.ensures.looked c.header-budget.ensures.header in
    (accepted_line c.cost.result c.header-budget.result.budget c.in-Ok.looks, verdict, c.in_ok-put_accepted-in-Ok.ensures.ok)
