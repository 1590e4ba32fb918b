use Rattle.std.proofs.Common.{rules, ◌≡◌, ◌∙◌, refl, to_z, of_z, w16}
use Rattle.std.specs.Prelude.{◌&&◌, int_le}
use Rattle.std.proofs.lemmas.Bool.{and_left, and_right}
use Rattle.burr_plantext.specs.Rules.Written.{is_operand, number_in}
use Rattle.burr_asm.proofs.Numbers.{found_ends}
use Rattle.burr_asm.proofs.text.numbers.range.Goals as goal

pub returns-in_err-low-clause-value : goal.returns-in_err-low-clause-value
returns-in_err-low-clause-value c =
    let low = c.args.low.bytes.now in
    let high = c.args.high.bytes.now in
    rw c.from_residual.ensures
    (and_left (is_operand low && is_operand high) (int_le (number_in low) (number_in high)) (and_left (is_operand low) (is_operand high) c.in_err-low.ensures.value))

pub returns-in_err-high-clause-value : goal.returns-in_err-high-clause-value
returns-in_err-high-clause-value c =
    let low = c.args.low.bytes.now in
    let high = c.args.high.bytes.now in
    rw c.from_residual-in_err-high.ensures
    (and_left (is_operand low && is_operand high) (int_le (number_in low) (number_in high)) (and_right (is_operand low) (is_operand high) c.in_err-high.ensures.value))

-- the pair holds the numbers as words of 16 bits
pub returns-clause-value : goal.returns-clause-value
returns-clause-value c =
    let low = c.in_ok-low.ensures.value in
    let high = c.in_ok-high.ensures.value in
    let low_is : to_z w16 (of_z w16 c.in_ok-low.low) ≡ c.in_ok-low.low = search rules in
    let high_is : to_z w16 (of_z w16 c.in_ok-high.high) ≡ c.in_ok-high.high = search rules in
    rw c.then_some.ensures
    (found_ends c.args.low.bytes.now c.args.high.bytes.now (to_z w16 (of_z w16 c.in_ok-low.low)) (to_z w16 (of_z w16 c.in_ok-high.high)) _ low.0 (low_is ∙ low.1) high.0 (high_is ∙ high.1) refl)
