-- Any other word says nothing alone.
use Rattle.std.proofs.Common.{◌≡◌, [], ◌∙◌, rules, None}
use Rattle.burr_plantext.specs.Rules.Operands.{by_word}
use Rattle.burr_plantext.specs.Rules.Statements.{bares, bare_words}
use Rattle.burr_plantext.proofs.CodeSteps.{code_alone}
use Rattle.burr_plantext.proofs.code.bare_instr.Goals as goal

pub returns-in_default-clause-value : goal.returns-in_default-clause-value
returns-in_default-clause-value c =
    let none : by_word c.args.word.now (bare_words bares) [] ≡ None = search rules in
    code_alone c.args.word.now ∙ none
