-- A container's plan is within the format, and so it is in version 2.
use Rattle.std.proofs.Common.{IsTrue, ◌∙◌, sym, subst}
use Rattle.burr_container.specs.Rules.Plans.{Plan, upgraded}
use Rattle.burr_container.specs.Rules.Fitting.{is_fitting}
use Rattle.burr_container.proofs.Common.OneContainer.{fits_where_kept}
use Rattle.burr_container.proofs.SecondVersion.{stays_fitting}
use Rattle.burr_container.proofs.restoring.upgrade.Goals as goal

pub returns-in_err-plan-clause-fits : goal.returns-in_err-plan-clause-fits
returns-in_err-plan-clause-fits c p of =
    stays_fitting p (fits_where_kept c.args.container.now p c.of.ensures.container of)

pub write-requires : goal.write-requires
write-requires c =
    let has = c.of.ensures.container in
    let same = c.plan.view_is ∙ c.in_ok-plan.ensures.plan has.0 has.2 in
    subst (λ (p : Plan). IsTrue (is_fitting (upgraded p))) (sym same) (stays_fitting has.0 has.1)

pub returns-clause-fits : goal.returns-clause-fits
returns-clause-fits c p of =
    stays_fitting p (fits_where_kept c.args.container.now p c.of.ensures.container of)
