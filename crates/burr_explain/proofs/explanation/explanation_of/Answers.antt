use Rattle.std.proofs.Common.{List, ℕ, MatchOption, Contains, subst}
use Rattle.burr_explain.specs.Asked.{IsAskedBy, known_keys, lower_case}
use Rattle.burr_explain.proofs.Keys.{one_printed_key}
use Rattle.burr_explain.proofs.explanation.explanation_of.Goals as goal

pub returns : goal.returns
returns c key is =
    subst (λ (k : List ℕ). MatchOption c.explanation_under.result (¬ Contains known_keys k) (λ e. Contains known_keys k × IsAskedBy k e.now))
    (one_printed_key (lower_case c.args.line.now) key (lower_case c.key_of_printed.result.now) is c.key_of_printed.ensures) c.explanation_under.ensures
