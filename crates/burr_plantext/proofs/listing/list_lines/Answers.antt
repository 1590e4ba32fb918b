-- The next procedure is written.
use Rattle.std.proofs.Common.{◌+◌, arith, ◌∙◌}
use Rattle.burr_plantext.proofs.Steps.{got_at}
use Rattle.burr_plantext.proofs.Blocks.{title_is, procedures_begun, procedure_turn, procedures_end}
use Rattle.burr_plantext.proofs.listing.list_lines.Goals as goal

pub loop-i-init : goal.loop-i-init
loop-i-init c p is =
    procedures_begun c.args.places p _ (c.in_ok-text.ensures ∙ title_is c.header.result p (c.header.ensures.plan p is))

pub loop-i-preserved : goal.loop-i-preserved
loop-i-preserved c p is =
    let i = c.loop-i.i in
    let many = c.proc_count-i-end.ensures.plan p is in
    let (q, here) = got_at p.procedures i (omega (arith, many, c.loop-i-test.true)) in
    procedure_turn c.args.places p i (i + 1) c.loop-i.text.items _ q (omega arith) here (c.loop-i.invariant p is) (c.in_ok-add_procedure.ensures p q is here)

pub returns : goal.returns
returns c p is =
    let many = c.proc_count-i-end.ensures.plan p is in
    procedures_end c.args.places p c.loop-i.i c.loop-i.text.items (omega (arith, many, c.loop-i-test.false)) (c.loop-i.invariant p is)
