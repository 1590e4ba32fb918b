use Rattle.std.proofs.Common.{List, ℕ, refl, subst, sym, inr, arith}
use Rattle.burr_runs.specs.Views.ReadWhole.{IsWholeInput}
use Rattle.burr_judge.specs.StepEnds.{left_by}
use Rattle.burr_program.proofs.Results.{call_done, call_stopped, file_read, read_memory, stdin_unread, unread}
use Rattle.burr_program.proofs.commands.trace.trace.Goals as goal

pub returns-in_err-drawing : goal.returns-in_err-drawing
returns-in_err-drawing g c = unread _ _ (0, omega arith, refl) c.in_err-drawing.ensures.err c.from_residual.ensures.1

pub returns-in_err-source : goal.returns-in_err-source
returns-in_err-source g c = unread _ _ (1, omega arith, refl) c.in_err-source.ensures.err c.from_residual-in_err-source.ensures.1

pub returns-in_err-answers : goal.returns-in_err-answers
returns-in_err-answers g c = stdin_unread _ _ _ _ _ _ c.in_err-answers.ensures.err c.from_residual-in_err-answers.ensures.1

pub returns-in_err-status : goal.returns-in_err-status
returns-in_err-status g c =
    let gave = left_by g.R.Source c.args.answers.now c.read_whole.new.source in
    let whole = subst (λ (a : List ℕ). IsWholeInput gave.old gave.new gave.failed a) (sym c.deref.ensures.value) c.in_ok-answers.ensures.ok in
    call_stopped (λ output status ends. (_, _, _, whole, ends)) (read_memory _) (λ line breaks. breaks) c.in_err-status.ensures c.from_residual-in_err-status.ensures.1

pub returns : goal.returns
returns g c =
    let gave = left_by g.R.Source c.args.answers.now c.read_whole.new.source in
    let whole = subst (λ (a : List ℕ). IsWholeInput gave.old gave.new gave.failed a) (sym c.deref.ensures.value) c.in_ok-answers.ensures.ok in
    call_done (λ output ends. (_, _, file_read c.in_ok-drawing.drawing _ _ c.in_ok-drawing.ensures.ok refl, file_read c.in_ok-source.source _ _ c.in_ok-source.ensures.ok refl, refl, (_, whole, ends))) c.in_ok-status.ensures
