use Rattle.burr_explain.proofs.Keys as keys
use Rattle.burr_explain.proofs.laws.each_line_has_one_key.Goals as goal

pub returns : goal.returns
returns c = keys.each_line_has_one_key
