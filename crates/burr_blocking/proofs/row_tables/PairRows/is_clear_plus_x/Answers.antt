use Rattle.std.proofs.Common.{◌≡◌, rules, to_z-of_z, w32, FitsSigned, ap}
use Rattle.std.specs.Prelude.{ℤ, pos, ◌+ℤ◌, ◌-ℤ◌}
use Rattle.burr_blocking.proofs.Sets.{plus_x_clear}
use Rattle.burr_blocking.proofs.row_tables.PairRows.is_clear_plus_x.Goals as goal

pub returns : goal.returns
returns c =
    let e = c.args.self.now.extent in
    let fits : FitsSigned w32 c.signed_column-next.result = search rules in
    let next : ℤ = c.signed_column-next.result +ℤ pos 1 in
    let fits_next : FitsSigned w32 next = search rules in
    let is : next ≡ (c.args.from.x -ℤ e.least.x) +ℤ pos 1 = ap (λ (t : ℤ). t +ℤ pos 1) c.signed_column-next.ensures.value in
    plus_x_clear e c.args.self.now.rows.items c.args.from c.row_at.result next c.is_clear_from.result c.args.self.now.short is c.row_at.ensures (simp to_z-of_z at c.is_clear_from.ensures)
