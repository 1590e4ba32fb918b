use Rattle.std.proofs.Common.{rules, ◌≡◌, arith}
use Rattle.std.specs.Prelude.{nat_le, ◌&&◌}
use Rattle.burr_asm.proofs.Numbers.{found_within, none_within}
use Rattle.burr_asm.proofs.text.numbers.within.Goals as goal

pub returns-in_err-found-clause-value : goal.returns-in_err-found-clause-value
returns-in_err-found-clause-value c =
    rw c.from_residual.ensures (none_within c.args.least c.args.most 256 c.args.number.bytes.now (omega (arith, c.ranges.most.fits)) c.in_err-found.ensures)

pub returns-clause-value : goal.returns-clause-value
returns-clause-value c =
    let test : c.if-least-found.then_some ≡ (nat_le c.args.least c.in_ok-found.found && nat_le c.in_ok-found.found c.args.most) = search rules in
    rw c.then_some.ensures (found_within 256 c.in_ok-found.found c.args.number.bytes.now c.in_ok-found.ensures.0 c.in_ok-found.ensures.1 c.args.least c.args.most c.if-least-found.then_some test)
