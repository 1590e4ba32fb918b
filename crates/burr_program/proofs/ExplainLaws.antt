-- Each rule and each trap is found among the words that are explained.
use Rattle.std.proofs.Common.{◌≡◌, ℕ, List, true, refl}
use Rattle.std.proofs.lemmas.Map.Views.{Contains-from_any}
use Rattle.std.specs.Cmp.Lexicographic.{pointwise, bytes_decides}
use Rattle.std.specs.Fmt.{digits}
use Rattle.std.specs.List.{list_any}
use Rattle.std.specs.Prelude.{Contains, nat_eq}
use Rattle.burr_explain.specs.Known.{known_words}
use Rattle.burr_frames.specs.declared.rule.Rule.TheVariants.{OtherAssembly}
use Rattle.burr_state.specs.declared.effect.Trap.TheVariants.{Collision}
use Rattle.burr_program.specs.ExplainLaws.{EachRuleIsExplained, EachTrapIsExplained}

-- a word that a search finds is there
is_known : (word : List ℕ) → list_any (pointwise nat_eq word) known_words ≡ true → Contains known_words word
is_known word = Contains-from_any (λ x y. (bytes_decides x y).0) word known_words

pub rules_are_explained : EachRuleIsExplained
unfolding digits
rules_are_explained OtherAssembly = is_known _ refl
rules_are_explained _ = is_known _ refl

pub traps_are_explained : EachTrapIsExplained
unfolding digits
traps_are_explained Collision = (is_known _ refl, is_known _ refl)
traps_are_explained _ = (is_known _ refl, is_known _ refl)
