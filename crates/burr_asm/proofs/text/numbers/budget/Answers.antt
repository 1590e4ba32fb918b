use Rattle.std.proofs.Common.{rules, ◌≡◌, arith}
use Rattle.std.specs.Prelude.{nat_le, ◌&&◌}
use Rattle.burr_code.specs.declared.limits.TheConstants.{MOST_BUDGET}
use Rattle.burr_asm.proofs.Numbers.{found_within, none_within}
use Rattle.burr_asm.proofs.text.numbers.budget.Goals as goal

pub returns-in_err-budget : goal.returns-in_err-budget
returns-in_err-budget c =
    rw c.from_residual.ensures (none_within 1 MOST_BUDGET 4294967296 c.args.number.bytes.now (omega arith) c.in_err-budget.ensures)

pub returns : goal.returns
returns c =
    let test : c.if-budget-ge1.then_some ≡ (nat_le 1 c.in_ok-budget.budget && nat_le c.in_ok-budget.budget MOST_BUDGET) = search rules in
    rw c.then_some.ensures (found_within 4294967296 c.in_ok-budget.budget c.args.number.bytes.now c.in_ok-budget.ensures.0 c.in_ok-budget.ensures.1 1 MOST_BUDGET c.if-budget-ge1.then_some test)
