use Rattle.std.proofs.Common.{rules, inl}
use Rattle.burr_text.specs.Words.{IsCutAt}
use Rattle.burr_explain.specs.Asked.{lower_case}
use Rattle.burr_explain.proofs.Keys.{cut_lower}
use Rattle.burr_explain.proofs.explanation.key_of.Goals as goal

pub returns-in-Some : goal.returns-in-Some
returns-in-Some c =
    let is : IsCutAt 32 c.args.line.now c.in-Some.word.now c.in-Some.rest.now = search rules in
    inl (lower_case c.in-Some.word.now, lower_case c.in-Some.rest.now, cut_lower c.args.line.now c.in-Some.word.now c.in-Some.rest.now is, c.key_of_cut.ensures)
