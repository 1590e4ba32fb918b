use Rattle.std.proofs.Common.{◌∙◌, ap}
use Rattle.burr_state.specs.Rules.Bench.{Program}
use Rattle.burr_step.specs.Views.Driving.{resumed}
use Rattle.burr_step.proofs.OwnedDrives.{lasts}
use Rattle.burr_step.proofs.owned_drive.OwnedDrive.go_to.Goals as goal

pub invariant_of-self : goal.invariant_of-self
invariant_of-self c =
    let a = c.self.inside.assembly in
    let stood = c.replace-standing.result in
    lasts a c.self.inside.program stood c.suspend-self-inside.result c.resume-drive.result c.go_to-came.new.self
    (c.resume-drive.ensures ∙ ap (λ (w : Program). resumed a w stood) c.lend.ensures)
    c.go_to-came.ensures.goes.same c.suspend-self-inside.ensures.stands c.suspend-self-inside.ensures.lasting
