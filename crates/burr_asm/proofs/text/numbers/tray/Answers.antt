use Rattle.std.proofs.Common.{arith, refl}
use Rattle.std.specs.Prelude.{nat_lt}
use Rattle.burr_code.specs.declared.limits.TheConstants.{TRAYS}
use Rattle.burr_asm.proofs.Numbers.{found_below, none_below}
use Rattle.burr_asm.proofs.text.numbers.tray.Goals as goal

pub returns-in_err-tray-clause-value : goal.returns-in_err-tray-clause-value
returns-in_err-tray-clause-value c =
    rw c.from_residual.ensures (none_below TRAYS 256 c.args.number.bytes.now (omega arith) c.in_err-tray.ensures)

pub returns-clause-value : goal.returns-clause-value
returns-clause-value c =
    rw c.then_some.ensures (found_below 256 c.in_ok-tray.tray c.args.number.bytes.now c.in_ok-tray.ensures.0 c.in_ok-tray.ensures.1 TRAYS (nat_lt c.in_ok-tray.tray TRAYS) refl)
