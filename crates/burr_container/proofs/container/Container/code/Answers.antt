-- That of the procedure.
use Rattle.std.proofs.Common.{sym, subst}
use Rattle.std.specs.Prelude.{◌<◌, ◌≤◌, List, length, slice_index_or}
use Rattle.std.proofs.lemmas.Option.{slice_get-get_or}
use Rattle.burr_container.specs.declared.procedure_ref.StoredProcedure.{StoredProcedure}
use Rattle.burr_container.specs.Views.InPlace.{AreFor, IsProcedure}
use Rattle.burr_container.specs.Views.Containers.{ContainerView, container_view, IsContainer}
use Rattle.burr_container.proofs.WithinFormat.{code_short}
use Rattle.burr_container.proofs.Kept.{for_at}
use Rattle.burr_container.proofs.container.Container.code.Goals as goal

pub returns-clause-plan : goal.returns-clause-plan
returns-clause-plan c = λ p q is at. (for_at (IsProcedure p.pieces) c.deref.result.now p.procedures c.args.i q c.index-deref-i.result
    (subst (λ (xs : List StoredProcedure). AreFor (IsProcedure p.pieces) xs p.procedures) (sym c.deref.ensures.0) (subst (λ (k : ContainerView). IsContainer k p) (sym c.self.view_is) is).procedures) at).code

pub returns-clause-short : goal.returns-clause-short
returns-clause-short c =
    let kept = c.self.inside.procedures.items in
    let there = subst (λ (k : ContainerView). c.args.i < length k.procedures) (sym c.self.view_is) c.requires in
    subst (λ (rs : List StoredProcedure). length (slice_index_or rs c.args.i c.index-deref-i.result).code.now ≤ 4096) (sym c.deref.ensures.0)
    (code_short (container_view c.self.inside.header kept) c.args.i (slice_index_or kept c.args.i c.index-deref-i.result) c.self.invariant (slice_get-get_or kept c.args.i c.index-deref-i.result there))
