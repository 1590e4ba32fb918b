use Rattle.std.proofs.Common.{◌-◌, sym, ◌∙◌, arith}
use Rattle.burr_lines.proofs.TextLines.{first_line, is_first, last_line, no_more_lines, passed}
use Rattle.burr_lines.proofs.lines.numbered_line.Goals as goal

pub returns-in-None-clause-bytes : goal.returns-in-None-clause-bytes
returns-in-None-clause-bytes c =
    sym (no_more_lines c.loop.rest.now (c.args.number - c.loop.counter) c.in-None.ensures (omega arith)) ∙ c.loop.invariant.wanted

pub loop-preserved : goal.loop-preserved
loop-preserved c =
    record { first = omega arith; wanted = passed _ c.in-Some.field-0-0.now c.in-Some.more.now c.loop.counter c.args.number _ c.in-Some.ensures (omega arith) c.loop.invariant.wanted }

pub returns-in-Some-cut_at-clause-bytes : goal.returns-in-Some-cut_at-clause-bytes
returns-in-Some-cut_at-clause-bytes c =
    is_first c.loop.rest.now _ _ c.loop.counter c.args.number _ (first_line _ _ _ c.in-Some-cut_at.ensures) (omega arith) c.loop.invariant.wanted

pub returns-in-None-2-clause-bytes : goal.returns-in-None-2-clause-bytes
returns-in-None-2-clause-bytes c =
    is_first c.loop.rest.now _ _ c.loop.counter c.args.number _ (last_line _ c.in-None-cut_at.ensures (sym c.is_empty.ensures ∙ c.if-is_empty.false)) (omega arith) c.loop.invariant.wanted
