-- A line of an exit frame is judged as by the rules.
use Rattle.std.proofs.Common.{sym, ap, ◌∙◌, Some}
use Rattle.std.proofs.lemmas.Result.{err_from_is_err_and}
use Rattle.burr_container.specs.Rules.Plans.{ExitFrame}
use Rattle.burr_asm.specs.Views.LineWords.{line_words}
use Rattle.burr_asm.proofs.StageExits.{exit_refused, exit_goes_on, exit_ends}
use Rattle.burr_asm.proofs.text.stage.in_exit.Goals as goal

pub returns-in_err-add : goal.returns-in_err-add
returns-in_err-add c =
    let e = err_from_is_err_and c.from_residual.result c.from_residual.ensures.1 in
    rw (e.1, e.2)
    (exit_refused c.args.exit.now c.args.routine.now c.args.routine.now c.args.pieces (line_words c.args.form) c.args.line c.in_err-add.field-0.0 c.in_err-add.ensures)

pub returns-then-not-is_whole : goal.returns-then-not-is_whole
returns-then-not-is_whole c =
    exit_goes_on c.args.exit.now c.add.new.self c.args.routine.now c.args.pieces (line_words c.args.form) c.args.line c.in_ok-add.ensures (sym c.if-not-is_whole.ensures)

pub returns : goal.returns
returns c =
    exit_ends c.args.exit.now c.add.new.self c.args.routine.now c.set_exit.new.self c.args.pieces (line_words c.args.form) c.args.line c.requires c.in_ok-add.ensures (sym c.if-not-is_whole.ensures)
    (c.set_exit.ensures ∙ ap (λ (x : ExitFrame). record c.args.routine.now { exit = Some x }) c.take_frame.ensures)
