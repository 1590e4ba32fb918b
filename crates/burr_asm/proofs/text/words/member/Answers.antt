use Rattle.std.proofs.Common.{rules, ◌≡◌, arith}
use Rattle.std.specs.Prelude.{nat_le, nat_lt, ◌&&◌}
use Rattle.burr_asm.proofs.Numbers.{found_member, no_member}
use Rattle.burr_asm.proofs.text.words.member.Goals as goal

pub returns-in_err-piece : goal.returns-in_err-piece
returns-in_err-piece c =
    rw c.from_residual.ensures (no_member c.args.least c.args.bound 256 c.args.number.bytes.now (omega (arith, c.requires)) c.in_err-piece.ensures)

pub returns : goal.returns
returns c =
    let test : c.if-least-piece.then_some ≡ (nat_lt c.in_ok-piece.piece c.args.bound && nat_le c.args.least c.in_ok-piece.piece) = search rules in
    rw c.then_some.ensures (found_member 256 c.in_ok-piece.piece c.args.number.bytes.now c.in_ok-piece.ensures.0 c.in_ok-piece.ensures.1 c.args.least c.args.bound c.if-least-piece.then_some test)
