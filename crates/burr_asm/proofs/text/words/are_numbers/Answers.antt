use Rattle.std.proofs.Common.{◌≡◌, rules, true, false, sym, ◌∙◌}
use Rattle.burr_plantext.proofs.Common.WordTests.{number_result}
use Rattle.burr_asm.proofs.Sets.{number_next, no_number_next, number_last}
use Rattle.burr_asm.proofs.Words.{cut_shorter}
use Rattle.burr_asm.proofs.text.words.are_numbers.Goals as goal

pub returns-then-not-is_number : goal.returns-then-not-is_number
returns-then-not-is_number c =
    let no : c.is_number.result ≡ false = search rules in
    sym (c.loop-number.invariant ∙ no_number_next _ _ _ _ c.in-Some.ensures (number_result _ _ c.is_number.ensures) no)

pub loop-number-preserved : goal.loop-number-preserved
loop-number-preserved c =
    let is : c.is_number.result ≡ true = search rules in
    c.loop-number.invariant ∙ number_next _ _ _ _ c.in-Some.ensures (number_result _ _ c.is_number.ensures) is

pub returns : goal.returns
returns c = number_last _ _ c.in_default.ensures (number_result _ _ c.is_number-2.ensures) ∙ sym c.loop-number.invariant

pub loop-number-smaller : goal.loop-number-smaller
loop-number-smaller c = cut_shorter _ _ _ c.in-Some.ensures
