use Rattle.std.proofs.Common.{rules, to_z-of_z, w32, FitsSigned}
use Rattle.burr_blocking.proofs.extent.Extent.reaches_y.Goals as goal

pub returns : goal.returns
returns c =
    let number : FitsSigned w32 c.args.displacement.y = search rules in
    let from : FitsSigned w32 c.args.self.least.y = search rules in
    let to : FitsSigned w32 c.args.self.greatest.y = search rules in
    simp to_z-of_z at c.is_from_to.ensures
