-- As many as the plan has.
use Rattle.std.proofs.Common.{◌∙◌, sym, subst}
use Rattle.burr_container.specs.Views.InPlace.{IsProcedure}
use Rattle.burr_container.specs.Views.Containers.{ContainerView, IsContainer}
use Rattle.burr_container.proofs.Kept.{for_length}
use Rattle.burr_container.proofs.container.Container.proc_count.Goals as goal

pub returns-clause-plan : goal.returns-clause-plan
returns-clause-plan c = λ p is.
    c.len.ensures.value ∙ for_length (IsProcedure p.pieces) c.self.inside.procedures.items p.procedures (subst (λ (k : ContainerView). IsContainer k p) (sym c.self.view_is) is).procedures
