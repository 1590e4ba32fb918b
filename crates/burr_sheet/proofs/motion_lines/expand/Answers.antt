use Rattle.std.proofs.Common.{◌≡◌, ◌+◌, ◌<◌, ◌≤◌, length, ap, arith, rules}
use Rattle.burr_code.specs.declared.limits.TheConstants.{MOST_BUDGET}
use Rattle.burr_sheet.specs.Views.MotionLines.{line_of}
use Rattle.burr_sheet.specs.Rules.SheetText.{motion_count}
use Rattle.burr_sheet.proofs.LineByLine.{expands_none, expands_line}
use Rattle.burr_sheet.proofs.motion_lines.expand.Goals as goal

pub returns-in_default : goal.returns-in_default
returns-in_default c =
    let count : c.len.result ≡ length c.loop-rest.motions.items = search rules in
    let some : 0 < length c.loop-rest.rest.now = search rules in
    expands_none _ _ c.loop-rest.motions.items _ _ _ c.loop-rest.invariant (λ none. omega (arith, ap length none))
    (λ l after line apart few. c.in_default.ensures l after line apart (omega arith))

pub loop-rest-preserved : goal.loop-rest-preserved
loop-rest-preserved c =
    let count : c.len.result ≡ length c.loop-rest.motions.items = search rules in
    let few : length c.loop-rest.motions.items + motion_count (line_of c.in-Some.line) ≤ MOST_BUDGET = omega (arith, c.in-Some.ensures.2) in
    expands_line _ _ _ _ _ _ c.loop-rest.invariant c.in-Some.line _ c.in-Some.ensures.0 c.in-Some.ensures.1 few _ _ c.in_ok-add_motions.ensures (omega arith)
