use Rattle.std.proofs.Common.{inl}
use Rattle.burr_explain.specs.Asked.{lower_case}
use Rattle.burr_explain.proofs.explanation.key_of_printed.Goals as goal

pub returns-in-Some : goal.returns-in-Some
returns-in-Some c = inl (lower_case c.in-Some.said.now, c.in-Some.ensures, c.key_of.ensures)
