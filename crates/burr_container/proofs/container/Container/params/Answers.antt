-- Those of the procedure.
use Rattle.std.proofs.Common.{◌≡◌, ◌≤◌, ◌∙◌, sym, ap, subst}
use Rattle.std.specs.Prelude.{List, slice_index_or}
use Rattle.burr_code.specs.declared.limits.TheConstants.{MOST_PARAMETERS}
use Rattle.burr_container.specs.declared.procedure_ref.StoredProcedure.{StoredProcedure}
use Rattle.burr_container.specs.Views.InPlace.{AreFor, IsProcedure}
use Rattle.burr_container.specs.Views.Containers.{ContainerView, IsContainer, HasPlan}
use Rattle.burr_container.proofs.FewCounts.{few_counts}
use Rattle.burr_container.proofs.Kept.{for_at}
use Rattle.burr_container.proofs.container.Container.params.Goals as goal

pub returns-clause-plan : goal.returns-clause-plan
returns-clause-plan c = λ p q is at. (for_at (IsProcedure p.pieces) c.deref.result.now p.procedures c.args.i q c.index-deref-i.result
    (subst (λ (xs : List StoredProcedure). AreFor (IsProcedure p.pieces) xs p.procedures) (sym c.deref.ensures.0) (subst (λ (k : ContainerView). IsContainer k p) (sym c.self.view_is) is).procedures) at).parameters

pub returns-clause-few : goal.returns-clause-few
returns-clause-few c =
    let i = c.args.i in
    let there : c.deref.result.now ≡ c.args.self.now.procedures =
    c.deref.ensures.0 ∙ ap (λ (k : ContainerView). k.procedures) c.self.view_is in
    subst (λ (xs : List StoredProcedure). (slice_index_or xs i c.index-deref-i.result).parameters ≤ MOST_PARAMETERS) (sym there)
    (few_counts c.args.self.now i c.index-deref-i.result (subst HasPlan c.self.view_is c.self.invariant) c.requires).parameters
