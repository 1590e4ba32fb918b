use Rattle.std.proofs.Common.{◌∙◌, ap}
use Rattle.burr_state.specs.Rules.Bench.{Program}
use Rattle.burr_step.specs.Views.Driving.{resumed}
use Rattle.burr_step.proofs.OwnedDrives.{lasts, moves_same}
use Rattle.burr_step.proofs.owned_drive.OwnedDrive.next.Goals as goal

pub invariant_of-self : goal.invariant_of-self
invariant_of-self c =
    let a = c.self.inside.assembly in
    let old = c.resume-drive.result in
    let new = c.next-next.new.self in
    let stood = c.replace-standing.result in
    lasts a c.self.inside.program stood c.suspend-self-inside.result old new (c.resume-drive.ensures ∙ ap (λ (w : Program). resumed a w stood) c.lend.ensures)
    (moves_same old new c.next-next.result c.next-next.ensures) c.suspend-self-inside.ensures.stands c.suspend-self-inside.ensures.lasting
