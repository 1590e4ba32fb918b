use Rattle.std.proofs.Common.{rules, refl, inl, inr}
use Rattle.burr_explain.specs.Asked.{IsDigits, IsLead, lower_case}
use Rattle.burr_explain.proofs.Keys.{digits_lower, digits_back}
use Rattle.burr_explain.proofs.explanation.key_of_cut.Goals as goal

pub returns-then-is_digits : goal.returns-then-is_digits
returns-then-is_digits c =
    let digits : IsDigits c.args.word.now = search rules in
    inr (inl (digits_lower c.args.word.now digits, refl))

pub returns-else-is_digits : goal.returns-else-is_digits
returns-else-is_digits c =
    let not_lead : ¬ IsLead (lower_case c.args.word.now) = search rules in
    let not_digits : ¬ IsDigits c.args.word.now = search rules in
    inr (inr (not_lead, (λ digits. not_digits (digits_back c.args.word.now digits)), refl))
