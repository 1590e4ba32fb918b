use Rattle.std.proofs.Common.{◌≡◌, ◌<◌, length, rules, arith}
use Rattle.std.proofs.lemmas.Result.{err_from_is_err_and}
use Rattle.burr_asm.proofs.ReadLines.{line_ends, nothing_read, read_on, next_fails, last_fails, text_ends}
use Rattle.burr_asm.proofs.Words.{cut_shorter}
use Rattle.burr_asm.proofs.text.read_lines.Goals as goal

pub loop-rest-init : goal.loop-rest-init
loop-rest-init c = (omega arith, nothing_read c.args.text.now c.args.front.now c.requires)

pub returns-in_default : goal.returns-in_default
returns-in_default c =
    let some : 0 < length c.loop-rest.rest.now = search rules in
    last_fails _ _ _ _ c.loop-rest.invariant.1 _ some c.in_default.ensures c.unended.ensures

pub returns-in_err-add : goal.returns-in_err-add
returns-in_err-add c =
    let p = err_from_is_err_and c.from_residual.result c.from_residual.ensures.1 in
    rw (p.1, p.2) (next_fails _ _ _ _ c.loop-rest.invariant.1 _ _ _ c.in-Some.ensures c.in_err-add.ensures)

pub loop-rest-preserved : goal.loop-rest-preserved
loop-rest-preserved c = (
  line_ends _ _ _ _ _ c.in-Some.ensures c.loop-rest.invariant.0,
  read_on _ _ _ _ c.loop-rest.invariant.1 _ _ _ _ (omega arith) c.in-Some.ensures c.in_ok-add.ensures,
)

pub returns : goal.returns
returns c =
    let none : length c.loop-rest.rest.now ≡ 0 = search rules in
    text_ends _ _ _ _ c.loop-rest.invariant.1 _ none c.finish.ensures

pub loop-rest-smaller : goal.loop-rest-smaller
loop-rest-smaller c = cut_shorter _ _ _ c.in-Some.ensures
