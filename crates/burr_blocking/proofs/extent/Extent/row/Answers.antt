use Rattle.std.proofs.Common.{◌≡◌, ◌+◌, ◌*◌, ℕ, rules, to_z-of_z, w32, FitsSigned, refl, arith}
use Rattle.std.specs.Int.{int_gap}
use Rattle.burr_voxels.specs.declared.cell.Cell.{Cell}
use Rattle.burr_blocking.specs.declared.extent.Extent.{Extent}
use Rattle.burr_blocking.specs.Views.Boxes.{deep_of, row_of}
use Rattle.burr_blocking.proofs.Made.{row_lt, row_few}
use Rattle.burr_blocking.proofs.extent.Extent.row.Goals as goal

-- the gaps make the row
is_row : (e : Extent) (d : Cell) (y z deep : ℕ) → y ≡ int_gap e.least.y d.y → z ≡ int_gap e.least.z d.z → deep ≡ deep_of e → z * deep + y ≡ row_of e d
is_row e d y z deep y_is z_is deep_is = rw (y_is, z_is, deep_is) refl

pub returns-clause-value : goal.returns-clause-value
returns-clause-value c =
    let least_y : FitsSigned w32 c.args.self.least.y = search rules in
    let least_z : FitsSigned w32 c.args.self.least.z = search rules in
    let y : FitsSigned w32 c.args.displacement.y = search rules in
    let z : FitsSigned w32 c.args.displacement.z = search rules in
    is_row c.args.self c.args.displacement c.gap-y.result c.gap-z.result c.deep.result (simp to_z-of_z at c.gap-y.ensures) (simp to_z-of_z at c.gap-z.ensures) c.deep.ensures.count

pub overflow_mul-result : goal.overflow_mul-result
overflow_mul-result c =
    let least_y : FitsSigned w32 c.args.self.least.y = search rules in
    let least_z : FitsSigned w32 c.args.self.least.z = search rules in
    let y : FitsSigned w32 c.args.displacement.y = search rules in
    let z : FitsSigned w32 c.args.displacement.z = search rules in
    omega (arith, row_few c.args.self c.args.displacement c.requires, is_row c.args.self c.args.displacement c.gap-y.result c.gap-z.result c.deep.result (simp to_z-of_z at c.gap-y.ensures) (simp to_z-of_z at c.gap-z.ensures) c.deep.ensures.count)

pub overflow_add-result : goal.overflow_add-result
overflow_add-result c =
    let least_y : FitsSigned w32 c.args.self.least.y = search rules in
    let least_z : FitsSigned w32 c.args.self.least.z = search rules in
    let y : FitsSigned w32 c.args.displacement.y = search rules in
    let z : FitsSigned w32 c.args.displacement.z = search rules in
    omega (arith, row_few c.args.self c.args.displacement c.requires, is_row c.args.self c.args.displacement c.gap-y.result c.gap-z.result c.deep.result (simp to_z-of_z at c.gap-y.ensures) (simp to_z-of_z at c.gap-z.ensures) c.deep.ensures.count)

pub returns-clause-bound : goal.returns-clause-bound
returns-clause-bound c =
    let least_y : FitsSigned w32 c.args.self.least.y = search rules in
    let least_z : FitsSigned w32 c.args.self.least.z = search rules in
    let y : FitsSigned w32 c.args.displacement.y = search rules in
    let z : FitsSigned w32 c.args.displacement.z = search rules in
    rw (is_row c.args.self c.args.displacement c.gap-y.result c.gap-z.result c.deep.result (simp to_z-of_z at c.gap-y.ensures) (simp to_z-of_z at c.gap-z.ensures) c.deep.ensures.count)
    (row_lt c.args.self c.args.displacement c.requires)

pub returns-clause-few : goal.returns-clause-few
returns-clause-few c =
    let least_y : FitsSigned w32 c.args.self.least.y = search rules in
    let least_z : FitsSigned w32 c.args.self.least.z = search rules in
    let y : FitsSigned w32 c.args.displacement.y = search rules in
    let z : FitsSigned w32 c.args.displacement.z = search rules in
    rw (is_row c.args.self c.args.displacement c.gap-y.result c.gap-z.result c.deep.result (simp to_z-of_z at c.gap-y.ensures) (simp to_z-of_z at c.gap-z.ensures) c.deep.ensures.count)
    (row_few c.args.self c.args.displacement c.requires)
