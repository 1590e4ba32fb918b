use Rattle.std.proofs.Common.{rules, to_z-of_z, w32, FitsSigned}
use Rattle.burr_blocking.proofs.extent.Extent.reaches_x.Goals as goal

pub returns : goal.returns
returns c =
    let number : FitsSigned w32 c.args.displacement.x = search rules in
    let from : FitsSigned w32 c.args.self.least.x = search rules in
    let to : FitsSigned w32 c.args.self.greatest.x = search rules in
    simp to_z-of_z at c.is_from_to.ensures
