use Rattle.burr_program.proofs.ExplainLaws.{rules_are_explained, traps_are_explained}
use Rattle.burr_program.proofs.laws.each_rule_and_trap_is_explained.Goals as goal

pub returns-clause-rules : goal.returns-clause-rules
returns-clause-rules c = rules_are_explained

pub returns-clause-traps : goal.returns-clause-traps
returns-clause-traps c = traps_are_explained
