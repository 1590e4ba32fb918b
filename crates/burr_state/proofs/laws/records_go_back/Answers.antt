use Rattle.burr_state.proofs.Common.Undo.{records_go_back, records_tell}
use Rattle.burr_state.proofs.laws.records_go_back.Goals as goal

pub returns : goal.returns
returns c = record { back = records_go_back; tell = records_tell }
