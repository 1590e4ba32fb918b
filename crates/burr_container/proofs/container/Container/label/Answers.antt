-- That of the label.
use Rattle.std.proofs.Common.{sym, subst}
use Rattle.std.specs.Prelude.{List}
use Rattle.burr_container.specs.declared.procedure_ref.StoredProcedure.{StoredProcedure}
use Rattle.burr_container.specs.Views.InPlace.{AreFor, IsProcedure}
use Rattle.burr_container.specs.Views.Containers.{ContainerView, IsContainer}
use Rattle.burr_container.proofs.Kept.{for_at}
use Rattle.burr_container.proofs.container.Container.label.Goals as goal

pub returns : goal.returns
returns c = λ p q is at l there.
    let here = (for_at (IsProcedure p.pieces) c.deref.result.now p.procedures c.args.i q c.index-deref-i.result
    (subst (λ (xs : List StoredProcedure). AreFor (IsProcedure p.pieces) xs p.procedures) (sym c.deref.ensures.0) (subst (λ (k : ContainerView). IsContainer k p) (sym c.self.view_is) is).procedures) at) in
    c.position.ensures p.pieces q.labels l here.labels there
