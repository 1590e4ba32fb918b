use Rattle.std.proofs.Common.{◌≡◌, [], subst, sym, ap, ◌∙◌, inr}
use Rattle.std.specs.Io.KnownBytes.{Appends}
use Rattle.burr_assembly.specs.Rules.Text.{Assembly}
use Rattle.burr_assembly.specs.Rules.Homes.{names_of}
use Rattle.burr_io.specs.Sink.{FailsWithin}
use Rattle.burr_state.specs.Rules.Bench.{BenchState}
use Rattle.burr_sheet.specs.Views.SheetUnderWay.{UnderWay, blank, still}
use Rattle.burr_runs.specs.declared.text_runs.Outcome.{Outcome}
use Rattle.burr_runs.specs.Rules.Output.{outcome_of}
use Rattle.burr_runs.specs.Views.Running.{FailsInRun, ClosesPart, PutsSheet, run_state}
use Rattle.burr_runs.specs.Views.AfterRuns.{IsAtRunEnd}
use Rattle.burr_text.proofs.Common.Tests.{on_err}
use Rattle.burr_runs.proofs.StepByStep.{sheet_of, fails_in_sheet, fails_at_close}
use Rattle.burr_runs.proofs.runs.run.Goals as goal

pub returns-in_err-closing-clause-err : goal.returns-in_err-closing-clause-err
returns-in_err-closing-clause-err g c =
    let b = g.R.Runner.benched c.args.runner.now in
    let sheet : c.new-sheet.result ≡ blank (names_of b.assembly) = c.new-sheet.ensures ∙ ap (λ (a : Assembly). blank (names_of a)) c.requires.assembly in
    on_err c.from_residual.result
    (fails_in_sheet g.W.Sink b c.args.answers.now _ _ c.requires.whole c.requires.start
    (subst (λ (u : UnderWay). FailsInRun g.W.Sink c.args.sink.now c.run_to_close.new.sink (run_state b c.args.answers.now u)) sheet c.in_err-closing.ensures.err))

pub returns-in_err-close-clause-err : goal.returns-in_err-close-clause-err
returns-in_err-close-clause-err g c =
    let b = g.R.Runner.benched c.args.runner.now in
    let end = run_state (g.R.Runner.benched c.run_to_close.new.runner) [] c.run_to_close.new.sheet in
    let sheet : c.new-sheet.result ≡ blank (names_of b.assembly) = c.new-sheet.ensures ∙ ap (λ (a : Assembly). blank (names_of a)) c.requires.assembly in
    let fails = subst (λ n. FailsWithin g.W.Sink c.run_to_close.new.sink c.close.new.sink (still end.sheet [] n c.in_ok-closing.closing)) (c.steps.ensures ∙ ap (λ (s : BenchState). s.steps) c.state.ensures) (c.in_err-close.ensures.end.1 c.in_ok-closing.ensures.unfailed).err in
    on_err c.from_residual-in_err-close.result
    (fails_in_sheet g.W.Sink b c.args.answers.now _ _ c.requires.whole c.requires.start
    (subst (λ (u : UnderWay). FailsInRun g.W.Sink c.args.sink.now c.close.new.sink (run_state b c.args.answers.now u)) sheet
    (fails_at_close g.W.Sink (run_state b c.args.answers.now c.new-sheet.result) end _ _ _ c.in_ok-closing.closing c.in_ok-closing.ensures.ok fails)))

pub returns-clause-ok : goal.returns-clause-ok
returns-clause-ok g c =
    let b = g.R.Runner.benched c.args.runner.now in
    let end = run_state (g.R.Runner.benched c.run_to_close.new.runner) [] c.run_to_close.new.sheet in
    let sheet : c.new-sheet.result ≡ blank (names_of b.assembly) = c.new-sheet.ensures ∙ ap (λ (a : Assembly). blank (names_of a)) c.requires.assembly in
    let closes = subst (λ n. Appends (g.W.Sink.taken c.run_to_close.new.sink) (g.W.Sink.taken c.close.new.sink) (still end.sheet [] n c.in_ok-closing.closing)) (c.steps.ensures ∙ ap (λ (s : BenchState). s.steps) c.state.ensures) (c.in_ok-close.ensures.end.1 c.in_ok-closing.ensures.unfailed).ok in
    let part = subst (λ (u : UnderWay). ClosesPart g.W.Sink c.args.sink.now c.run_to_close.new.sink (run_state b c.args.answers.now u) end c.in_ok-closing.closing) sheet c.in_ok-closing.ensures.ok in
    subst (λ (o : Outcome). PutsSheet g.W.Sink c.args.sink.now c.close.new.sink b.assembly b.program c.args.answers.now o) (sym c.outcome.ensures)
    (sheet_of g.W.Sink b c.args.answers.now end _ _ _ c.in_ok-closing.closing c.requires.whole c.requires.start part closes)

pub returns-clause-end : goal.returns-clause-end
returns-clause-end g c =
    subst (λ (o : Outcome). IsAtRunEnd (g.R.Runner.benched c.args.runner.now) c.args.answers.now (g.R.Runner.benched c.run_to_close.new.runner) o) (sym c.outcome.ensures) c.in_ok-closing.ensures.end

pub returns-in_err-closing-clause-under_way : goal.returns-in_err-closing-clause-under_way
returns-in_err-closing-clause-under_way g c = on_err c.from_residual.result c.in_err-closing.ensures.under_way

pub returns-in_err-close-clause-under_way : goal.returns-in_err-close-clause-under_way
returns-in_err-close-clause-under_way g c =
    on_err c.from_residual-in_err-close.result (inr (outcome_of c.in_ok-closing.closing, c.in_ok-closing.ensures.end))
