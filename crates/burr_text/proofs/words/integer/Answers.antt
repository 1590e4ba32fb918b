-- Bytes that are no number are the text of no integer, and a number is read as the integer that it is the text of.
use Rattle.std.proofs.Common.{rules, sym, subst}
use Rattle.burr_text.specs.Numbers.{IsNumber}
use Rattle.burr_text.proofs.Integers.{unless_text, of_text, read_value}
use Rattle.burr_text.proofs.Common.Integers.{number_of_integer}
use Rattle.burr_text.proofs.words.integer.Goals as goal

pub returns-then-not-is_number : goal.returns-then-not-is_number
returns-then-not-is_number c = λ z h e.
    let told = c.is_number.ensures.1 (subst IsNumber (sym e) (number_of_integer z h)) in cc

pub returns-in_err-ok : goal.returns-in_err-ok
returns-in_err-ok c = rw c.from_residual.ensures (unless_text _ _ _ c.in_err-ok.ensures.value c.from_utf8.ensures.cases)

pub returns : goal.returns
returns c =
    let is : IsNumber c.args.text.now = c.is_number.ensures.0 (search rules) in
    let parses = of_text _ _ _ _ _ c.in_ok-ok.ensures.value c.from_utf8.ensures.cases c.parse.ensures.value.0 in
    rw c.ok-2.ensures.value (read_value _ _ is parses)
