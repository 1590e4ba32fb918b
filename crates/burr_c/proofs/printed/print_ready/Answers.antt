use Rattle.std.proofs.Common.{ap, ◌∙◌, inl, inr, subst, sym}
use Rattle.burr_judge.specs.DriveEnds.{FailsToBegin, ReadyEnds, ready_text}
use Rattle.burr_judge.specs.OpenEnds.{OpenBreaks, OpenEnds}
use Rattle.burr_judge.proofs.Common.Results.{told_ending}
use Rattle.burr_c.specs.Calls.{IsEitherTooLong}
use Rattle.burr_c.proofs.Printing.{all_lines_kept, vec_view, not_long}
use Rattle.burr_c.proofs.printed.print_ready.Goals as goal

pub returns-in_ok-print_lines-in-Ok-clause-ok : goal.returns-in_ok-print_lines-in-Ok-clause-ok
returns-in_ok-print_lines-in-Ok-clause-ok c =
    let ends = OpenEnds (ReadyEnds c.args.text.now c.args.container.now) c.args.text.now c.args.container.now in
    let printed = c.in_ok-print_lines-in-Ok.field-0 in
    subst (ends printed.bytes.items) (sym c.in_ok-print_lines-in-Ok.ensures.status)
    (all_lines_kept ends c.new-lines.result c.open_drive.new.sink printed.bytes.items _ c.new-lines.ensures.held (ap vec_view.taken c.new-lines.ensures.sink ∙ c.new.ensures)
    c.in_ok-print_lines-in-Ok.ensures.ok c.in-Ok.ensures.puts.done)

pub returns-in_ok-print_lines-in-Err-clause-ok : goal.returns-in_ok-print_lines-in-Err-clause-ok
returns-in_ok-print_lines-in-Err-clause-ok c =
    let ends = OpenEnds (ReadyEnds c.args.text.now c.args.container.now) c.args.text.now c.args.container.now in
    let printed = c.in_ok-print_lines-in-Err.field-0 in
    let ending = told_ending (λ after. OpenBreaks (FailsToBegin vec_view c.new-lines.result after (ready_text c.args.text.now c.args.container.now)) c.args.text.now c.args.container.now)
    c.in-Err.ensures.puts c.in_ok-status-in-Err.ensures in
    subst (ends printed.bytes.items) (sym c.in_ok-print_lines-in-Err.ensures.status)
    (all_lines_kept ends c.new-lines.result c.report.new.sink printed.bytes.items _ c.new-lines.ensures.held (ap vec_view.taken c.new-lines.ensures.sink ∙ c.new.ensures)
    c.in_ok-print_lines-in-Err.ensures.ok ending.0)

pub returns-in_err-print_lines-in-Ok-clause-long : goal.returns-in_err-print_lines-in-Ok-clause-long
returns-in_err-print_lines-in-Ok-clause-long c = not_long c.from_residual.result (IsEitherTooLong c.args.text.now c.args.container.now) short c.from_residual.ensures.1
  where
    short : ¬ IsEitherTooLong c.args.text.now c.args.container.now
    short (inl much) = let yes = c.is_too_long.ensures.1 much in cc
    short (inr much) = let yes = c.is_too_long-else-is_too_long.ensures.1 much in cc
