use Rattle.std.proofs.Common.{rules}
use Rattle.burr_explain.specs.Asked.{IsDigits}
use Rattle.burr_explain.proofs.Keys.{after_lower, no_rest, not_after}
use Rattle.burr_explain.proofs.explanation.after_digits.Goals as goal

pub returns-in_err-word : goal.returns-in_err-word
returns-in_err-word c = rw c.from_residual.ensures (no_rest c.args.line.now c.in_err-word.ensures)

pub returns-then-is_digits : goal.returns-then-is_digits
returns-then-is_digits c =
    let digits : IsDigits c.in_ok-word.word.now = search rules in
    after_lower c.args.line.now c.in_ok-word.word.now c.in_ok-word.rest.now c.in_ok-word.ensures digits

pub returns : goal.returns
returns c =
    let none : ¬ IsDigits c.in_ok-word.word.now = search rules in
    not_after c.args.line.now c.in_ok-word.word.now c.in_ok-word.rest.now c.in_ok-word.ensures none
