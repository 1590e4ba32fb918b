use Rattle.std.proofs.Common.{ap, ◌∙◌, subst, sym}
use Rattle.std.specs.Prelude.{Some}
use Rattle.burr_c.specs.CallEnds.{StepsEnd}
use Rattle.burr_c.proofs.Printing.{vec_view, steps_end}
use Rattle.burr_c.proofs.printed.print_steps.Goals as goal

pub returns-clause-ok : goal.returns-clause-ok
returns-clause-ok c =
    let printed = c.in_ok-print_lines.field-0 in
    subst (StepsEnd c.args.commands.now c.args.text.now c.args.container.now printed.bytes.items) (sym c.in_ok-print_lines.ensures.status)
    (steps_end c.new-source.result c.step_text-done.new.source (record { left = λ source. Some source.reader.now; has_failed = λ source. source.failed })
    c.new-sink.result c.step_text-done.new.sink c.report.new.sink c.args.commands.now c.args.text.now c.args.container.now printed.bytes.items _ _
    c.new-source.ensures.left c.new-sink.ensures.held (ap vec_view.taken c.new-sink.ensures.sink ∙ c.new.ensures) c.in_ok-print_lines.ensures.ok c.step_text-done.ensures c.in_ok-status.ensures)
