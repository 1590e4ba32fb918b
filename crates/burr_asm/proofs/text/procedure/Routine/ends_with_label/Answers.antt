use Rattle.std.proofs.Common.{◌≡◌, nat_eq, subst}
use Rattle.burr_asm.specs.Views.Routines.{RoutineParts, ends_with_label}
use Rattle.burr_asm.proofs.RoutineParts.{last_ends}
use Rattle.burr_asm.proofs.text.procedure.Routine.ends_with_label.Goals as goal

pub returns-in-Some : goal.returns-in-Some
returns-in-Some c =
    subst (λ (r : RoutineParts). nat_eq c.from.result c.self.inside.size ≡ ends_with_label r) c.self.view_is
    (last_ends _ _ _ _ _ c.from.ensures c.deref.ensures.value c.in-Some.ensures.value)
