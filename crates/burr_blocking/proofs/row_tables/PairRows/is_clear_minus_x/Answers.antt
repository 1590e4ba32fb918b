use Rattle.std.proofs.Common.{rules, to_z-of_z, w32, FitsSigned}
use Rattle.burr_blocking.proofs.Sets.{minus_x_clear}
use Rattle.burr_blocking.proofs.row_tables.PairRows.is_clear_minus_x.Goals as goal

pub returns : goal.returns
returns c =
    let fits : FitsSigned w32 c.signed_column.result = search rules in
    minus_x_clear c.args.self.now.extent c.args.self.now.rows.items c.args.from c.row_at.result c.signed_column.result c.is_clear_before.result c.args.self.now.short c.signed_column.ensures.value c.row_at.ensures (simp to_z-of_z at c.is_clear_before.ensures)
