use Rattle.std.proofs.Common.{rules, to_z-of_z, w32, FitsSigned}
use Rattle.burr_blocking.proofs.extent.Extent.units_from.Goals as goal

pub returns : goal.returns
returns c =
    let d = c.args.displacement in
    let x : FitsSigned w32 d.x = search rules in
    let y : FitsSigned w32 d.y = search rules in
    let z : FitsSigned w32 d.z = search rules in
    let least = c.args.self.least in
    let least_x : FitsSigned w32 least.x = search rules in
    let least_y : FitsSigned w32 least.y = search rules in
    let least_z : FitsSigned w32 least.z = search rules in
    record {
      along_x = simp to_z-of_z at c.offset-x.ensures;
      along_y = simp to_z-of_z at c.offset-y.ensures;
      along_z = simp to_z-of_z at c.offset-z.ensures;
    }
