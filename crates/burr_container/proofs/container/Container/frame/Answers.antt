-- That of the label.
use Rattle.std.proofs.Common.{◌≡◌, ◌∙◌, sym, ap, subst, ℕ}
use Rattle.std.specs.Prelude.{List, slice_index_or}
use Rattle.std.proofs.lemmas.Option.{slice_get-get_or}
use Rattle.burr_container.specs.declared.procedure_ref.StoredProcedure.{StoredProcedure}
use Rattle.burr_container.specs.Views.InPlace.{AreFor, IsProcedure, IsLabel}
use Rattle.burr_container.specs.Views.Containers.{ContainerView, IsContainer, HasPlan}
use Rattle.burr_container.proofs.Kept.{for_at}
use Rattle.burr_container.proofs.WithinFormat.{labels_of_plan}
use Rattle.burr_container.proofs.container.Container.frame.Goals as goal

pub returns-clause-places : goal.returns-clause-places
returns-clause-places c =
    let i = c.args.i in
    let kept = c.args.self.now in
    let same : c.deref.result.now ≡ kept.procedures = c.deref.ensures.0 ∙ ap (λ (k : ContainerView). k.procedures) c.self.view_is in
    let there = slice_get-get_or kept.procedures i c.index-deref-i.result c.requires.procedure in
    let pieces = ap (λ (xs : List StoredProcedure). (slice_index_or xs i c.index-deref-i.result).labels.layout.pieces) same in
    c.label.ensures.places ∙ pieces
    ∙ labels_of_plan kept i (slice_index_or kept.procedures i c.index-deref-i.result) (subst HasPlan c.self.view_is c.self.invariant) there

pub returns-clause-plan : goal.returns-clause-plan
returns-clause-plan c = λ p q is at l there.
    let here = (for_at (IsProcedure p.pieces) c.deref.result.now p.procedures c.args.i q c.index-deref-i.result
    (subst (λ (xs : List StoredProcedure). AreFor (IsProcedure p.pieces) xs p.procedures) (sym c.deref.ensures.0) (subst (λ (k : ContainerView). IsContainer k p) (sym c.self.view_is) is).procedures) at) in
    let kept =
    subst (λ (n : ℕ). AreFor (IsLabel n) (slice_index_or c.deref.result.now c.args.i c.index-deref-i.result).labels.starts q.labels)
    (sym here.of_plan) here.labels in
    (c.label.ensures.label q.labels l kept there).1
