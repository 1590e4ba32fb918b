-- A line that is no integer's text is no answer's line, since a text is cut at its first line end in one way.
use Rattle.std.proofs.Common.{rules, sym, ◌∙◌}
use Rattle.burr_text.specs.Words.{IsCutAt}
use Rattle.burr_text.proofs.Common.Cuts.{cut, lacks}
use Rattle.burr_text.proofs.Common.Unended.{lacks_signed_decimal}
use Rattle.burr_runs.proofs.AnswerTexts.{ended_line}
use Rattle.burr_runs.proofs.input.first_answer.Goals as goal

pub returns-in_err-integer : goal.returns-in_err-integer
returns-in_err-integer c = rw c.from_residual-in_err-integer.ensures (λ n after h e.
    let is_cut : IsCutAt 10 c.args.text.now c.in_ok-line.line.now c.in_ok-line.after.now = search rules in
    let same = cut 10 _ _ _ _ (lacks 10 _ is_cut.first) (lacks_signed_decimal n) (sym is_cut.parts ∙ e ∙ ended_line n after) in
    search rules)
