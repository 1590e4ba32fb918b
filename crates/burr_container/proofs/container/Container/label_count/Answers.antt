-- As many as the procedure has.
use Rattle.std.proofs.Common.{sym, subst, ◌∙◌}
use Rattle.std.specs.Prelude.{List}
use Rattle.burr_container.specs.declared.procedure_ref.StoredProcedure.{StoredProcedure}
use Rattle.burr_container.specs.Views.InPlace.{AreFor, IsProcedure, IsLabel}
use Rattle.burr_container.specs.Views.Containers.{ContainerView, IsContainer}
use Rattle.burr_container.proofs.Kept.{for_length, for_at}
use Rattle.burr_container.proofs.container.Container.label_count.Goals as goal

pub returns-clause-plan : goal.returns-clause-plan
returns-clause-plan c = λ p q is at.
    let here = (for_at (IsProcedure p.pieces) c.deref.result.now p.procedures c.args.i q c.index-deref-i.result
    (subst (λ (xs : List StoredProcedure). AreFor (IsProcedure p.pieces) xs p.procedures) (sym c.deref.ensures.0) (subst (λ (k : ContainerView). IsContainer k p) (sym c.self.view_is) is).procedures) at) in
    c.count.ensures.count ∙ for_length (IsLabel p.pieces) _ q.labels here.labels
