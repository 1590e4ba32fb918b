use Rattle.burr_blocking.proofs.Shifts.{set_bit_sets}
use Rattle.burr_blocking.proofs.row_tables.set_bit.Goals as goal

pub returns : goal.returns
returns c = set_bit_sets c.args.rows.now c.args.row c.args.column 0 c.requires.column c.requires.row
