use Rattle.std.proofs.Common.{◌≡◌, [], Some, ◌∙◌, sym}
use Rattle.std.specs.Prelude.{Option}
use Rattle.burr_step.specs.Views.Stepping.{IsFresh}
use Rattle.burr_c.proofs.Printing.{opened_ends, refusal_kept}
use Rattle.burr_c.proofs.printed.print_opening.Goals as goal

pub returns-in-Ok-clause-ok : goal.returns-in-Ok-clause-ok
returns-in-Ok-clause-ok c =
    let none : c.into_bytes.result.items ≡ [] = cc (sym c.into_bytes.ensures ∙ c.new-kept.ensures) in
    opened_ends IsFresh c.args.text.now c.args.container.now c.into_bytes.result.items c.in-Ok.stepper c.in-Ok.ensures.opens none

pub returns-in_ok-status-in-Err-clause-ok : goal.returns-in_ok-status-in-Err-clause-ok
returns-in_ok-status-in-Err-clause-ok c =
    refusal_kept c.new-kept.result c.report.new.sink c.args.text.now c.args.container.now _ _ _ c.in-Err.ensures.err c.in_ok-status-in-Err.ensures c.new-kept.ensures c.into_bytes-in-Err.ensures
