use Rattle.std.proofs.Common.{ℕ, ap, arith}
use Rattle.std.specs.Prelude.{nat_lt}
use Rattle.burr_code.specs.declared.limits.TheConstants.{SLOTS}
use Rattle.burr_asm.proofs.Numbers.{found_below, none_below}
use Rattle.burr_asm.proofs.text.numbers.slot.Goals as goal

pub returns-in_err-slot-clause-value : goal.returns-in_err-slot-clause-value
returns-in_err-slot-clause-value c =
    rw c.from_residual.ensures (none_below SLOTS 256 c.args.number.bytes.now (omega arith) c.in_err-slot.ensures)

pub returns-clause-value : goal.returns-clause-value
returns-clause-value c =
    rw c.then_some.ensures
    (found_below 256 c.in_ok-slot.slot c.args.number.bytes.now c.in_ok-slot.ensures.0 c.in_ok-slot.ensures.1 SLOTS (nat_lt c.from.result SLOTS) (ap (λ (k : ℕ). nat_lt k SLOTS) c.from.ensures))
