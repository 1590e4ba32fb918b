use Rattle.burr_blocking.proofs.Sets.{AreAhead, across_clear}
use Rattle.burr_blocking.proofs.row_tables.PairRows.is_clear_across.Goals as goal

pub returns-else-not-reaches_x : goal.returns-else-not-reaches_x
returns-else-not-reaches_x c =
    let t = c.args.self.now in
    let within = c.reaches_x.ensures.0 c.if-not-reaches_x.false in
    let ahead : AreAhead t.extent t.rows.items c.args.from c.args.direction c.rows_ahead.result = record { has = c.rows_ahead.ensures.has; all = c.rows_ahead.ensures.all } in
    across_clear t.extent t.rows.items c.args.from c.args.direction c.rows_ahead.result c.column.result c.has_bit.result c.requires.across within.0 within.1 c.column.ensures.value ahead c.has_bit.ensures
