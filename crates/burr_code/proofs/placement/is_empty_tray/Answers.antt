use Rattle.burr_code.proofs.Common.Counts.{counts_empty}
use Rattle.burr_code.proofs.placement.is_empty_tray.Goals as goal

pub returns : goal.returns
returns g c = counts_empty c.args.places.now c.args.tray c.count_in_tray.result c.count_in_tray.ensures
