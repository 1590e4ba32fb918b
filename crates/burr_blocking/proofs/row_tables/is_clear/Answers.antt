use Rattle.std.proofs.Common.{eqb-true, eq-eqb}
use Rattle.burr_blocking.proofs.Shifts.{clear_of_zero, zero_of_clear}
use Rattle.burr_blocking.proofs.row_tables.is_clear.Goals as goal

pub returns : goal.returns
returns c = (λ yes. clear_of_zero c.args.row (eqb-true c.args.row 0 yes), λ none. eq-eqb c.args.row 0 (zero_of_clear c.args.row none))
