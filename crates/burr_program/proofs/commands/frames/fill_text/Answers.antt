use Rattle.std.proofs.Common.{List, ℕ, subst, zero, ◌∙◌}
use Rattle.std.specs.Prelude.{IfOk}
use Rattle.burr_lines.specs.FilledTexts.{IsFilledIn}
use Rattle.burr_program.proofs.HowFar.{tells_nothing}
use Rattle.burr_program.proofs.Results.{any_refused, any_wants, refuses_any}
use Rattle.burr_program.proofs.commands.frames.fill_text.Goals as goal

pub returns-in_err-tables-clause-told : goal.returns-in_err-tables-clause-told
returns-in_err-tables-clause-told g c = (zero, tells_nothing g.E.Sink c.args.errors.now c.requires.told)

pub returns-in_err-unframed-clause-told : goal.returns-in_err-unframed-clause-told
returns-in_err-unframed-clause-told g c = (zero, tells_nothing g.E.Sink c.args.errors.now c.requires.told)

pub returns-in_err-blank-clause-told : goal.returns-in_err-blank-clause-told
returns-in_err-blank-clause-told g c = (zero, tells_nothing g.E.Sink c.args.errors.now c.requires.told)

pub returns-in_err-refuse_own_line-in-Err-clause-told : goal.returns-in_err-refuse_own_line-in-Err-clause-told
returns-in_err-refuse_own_line-in-Err-clause-told g c = (zero, tells_nothing g.E.Sink c.args.errors.now c.requires.told)

pub returns-in-Err-clause-told : goal.returns-in-Err-clause-told
returns-in-Err-clause-told g c = (zero, tells_nothing g.E.Sink c.args.errors.now c.requires.told)

pub returns-in_err-container-clause-told : goal.returns-in_err-container-clause-told
returns-in_err-container-clause-told g c = (zero, tells_nothing g.E.Sink c.args.errors.now c.requires.told)

pub returns-in_err-tables-clause-err : goal.returns-in_err-tables-clause-err
returns-in_err-tables-clause-err g c = refuses_any _ _ c.in_err-tables.ensures.err c.from_residual.ensures.1

pub returns-in_err-unframed-clause-err : goal.returns-in_err-unframed-clause-err
returns-in_err-unframed-clause-err g c = any_wants _ c.from_residual-in_err-unframed.ensures.1

pub returns-in_err-blank-clause-err : goal.returns-in_err-blank-clause-err
returns-in_err-blank-clause-err g c = any_wants _ c.from_residual-in_err-blank.ensures.1

pub returns-in_err-refuse_own_line-in-Err-clause-err : goal.returns-in_err-refuse_own_line-in-Err-clause-err
returns-in_err-refuse_own_line-in-Err-clause-err g c = any_wants _ c.from_residual-in_err-refuse_own_line-in-Err.ensures.1

pub returns-in_err-container-clause-err : goal.returns-in_err-container-clause-err
returns-in_err-container-clause-err g c = any_refused _ _ c.from_residual-in_err-container.ensures.1

pub returns-clause-made : goal.returns-clause-made
returns-clause-made g c =
    subst (λ (text : List ℕ). IfOk c.fill_by_runs.result (λ filled. IsFilledIn text filled.text.items)) (c.in_ok-unframed.ensures ∙ c.bytes.ensures) c.fill_by_runs.ensures.made
