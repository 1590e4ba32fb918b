use Rattle.std.proofs.Common.{rules}
use Rattle.burr_explain.proofs.ExplanationWords.{MatchOption-keys}
use Rattle.burr_explain.proofs.explanation.find_in_families.Goals as goal

pub returns : goal.returns
returns c = MatchOption-keys _ c.args.families.now _ (search rules)
