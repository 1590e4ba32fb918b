-- Each rule of the verifier and each trap of the bench is explained.
use Rattle.std.specs.Prelude.{◌++◌, Contains, codes, decimal}
use Rattle.burr_state.specs.declared.effect.Trap.{Trap}
use Rattle.burr_state.specs.Rules.TrapNames.{trap_number, trap_name}
use Rattle.burr_frames.specs.declared.rule.Rule.{Rule}
use Rattle.burr_frames.specs.Rules.RuleNumbers.{rule_number}
use Rattle.burr_explain.specs.Known.{known_words}

-- a rule under its word, as `V7`
abbrev pub EachRuleIsExplained : Type 0
EachRuleIsExplained =
    (r : Rule) → Contains known_words (codes "V" ++ decimal (rule_number r))

-- a trap under its number and under its name
abbrev pub EachTrapIsExplained : Type 0
EachTrapIsExplained =
    (t : Trap) → Contains known_words (decimal (trap_number t)) × Contains known_words (trap_name t)
