use Rattle.burr_explain.proofs.ExplanationWords.{MatchOption-known}
use Rattle.burr_explain.proofs.explanation.explanation_under.Goals as goal

pub returns : goal.returns
returns c =
    MatchOption-known _ c.faults.result.now c.faults-2.result.now c.faults-3.result.now c.rules.result.now c.rules-2.result.now c.rules-3.result.now
    c.lines.result.now c.lines-2.result.now c.traps.result.now c.find_in_families.result c.faults.ensures c.faults-2.ensures c.faults-3.ensures c.rules.ensures c.rules-2.ensures
    c.rules-3.ensures c.lines.ensures c.lines-2.ensures c.traps.ensures c.find_in_families.ensures
