use Rattle.std.proofs.Common.{ℕ, List, [], refl, subst}
use Rattle.burr_io.specs.LineWriter.{lines_view}
use Rattle.burr_judge.specs.PlanEnds.{never}
use Rattle.burr_program.specs.Commands.{CommandResult, ExplainDone}
use Rattle.burr_program.specs.ExplainEnds.{CannotExplain, ExplainEnds}
use Rattle.burr_program.proofs.HowFar.{tells_nothing}
use Rattle.burr_program.proofs.Results.{silent_command}
use Rattle.burr_program.proofs.commands.do_job.Goals as goal

pub returns-in-Cells-clause-ends : goal.returns-in-Cells-clause-ends
returns-in-Cells-clause-ends g c = rw c.in-Cells.is c.cells.ensures

pub returns-in-List-clause-ends : goal.returns-in-List-clause-ends
returns-in-List-clause-ends g c = rw c.in-List.is c.list.ensures

pub returns-in-Check-clause-ends : goal.returns-in-Check-clause-ends
returns-in-Check-clause-ends g c = rw c.in-Check.is c.check.ensures

pub returns-in-Run-clause-ends : goal.returns-in-Run-clause-ends
returns-in-Run-clause-ends g c = rw c.in-Run.is c.run.ensures

pub returns-in-Step-clause-ends : goal.returns-in-Step-clause-ends
returns-in-Step-clause-ends g c = rw c.in-Step.is c.step.ensures

pub returns-in-Drive-clause-ends : goal.returns-in-Drive-clause-ends
returns-in-Drive-clause-ends g c = rw c.in-Drive.is c.drive.ensures

pub returns-in-Why-clause-ends : goal.returns-in-Why-clause-ends
returns-in-Why-clause-ends g c = rw c.in-Why.is c.why.ensures

pub returns-in-Trace-clause-ends : goal.returns-in-Trace-clause-ends
returns-in-Trace-clause-ends g c = rw c.in-Trace.is c.trace.ensures

pub returns-in-Try-clause-ends : goal.returns-in-Try-clause-ends
returns-in-Try-clause-ends g c = rw c.in-Try.is c.run-in-Try.ensures

pub returns-in-Frames-clause-ends : goal.returns-in-Frames-clause-ends
returns-in-Frames-clause-ends g c = rw c.in-Frames.is c.frames.ensures.ends

pub returns-in-Assemble-clause-ends : goal.returns-in-Assemble-clause-ends
returns-in-Assemble-clause-ends g c = rw c.in-Assemble.is (silent_command c.asm.ensures)

pub returns-in-Upgrade-clause-ends : goal.returns-in-Upgrade-clause-ends
returns-in-Upgrade-clause-ends g c = rw c.in-Upgrade.is (silent_command c.upgrade.ensures)

pub returns-in-PlanSheet-clause-ends : goal.returns-in-PlanSheet-clause-ends
returns-in-PlanSheet-clause-ends g c = rw c.in-PlanSheet.is (silent_command c.plan.ensures)

pub returns-in-Explain-clause-ends : goal.returns-in-Explain-clause-ends
returns-in-Explain-clause-ends g c =
    rw c.in-Explain.is (subst (λ (line : List ℕ). CommandResult (lines_view g.W.Sink) c.args.io.now.sink c.explain.new.sink (ExplainDone line) (ExplainEnds line) (CannotExplain line) never c.explain.result) c.deref.ensures c.explain.ensures)

pub returns-in-Cells-clause-told : goal.returns-in-Cells-clause-told
returns-in-Cells-clause-told g c = rw c.in-Cells.is ([], refl, tells_nothing g.E.Sink c.args.io.now.errors c.requires.told)

pub returns-in-Assemble-clause-told : goal.returns-in-Assemble-clause-told
returns-in-Assemble-clause-told g c = rw c.in-Assemble.is ([], refl, tells_nothing g.E.Sink c.args.io.now.errors c.requires.told)

pub returns-in-List-clause-told : goal.returns-in-List-clause-told
returns-in-List-clause-told g c = rw c.in-List.is ([], refl, tells_nothing g.E.Sink c.args.io.now.errors c.requires.told)

pub returns-in-Upgrade-clause-told : goal.returns-in-Upgrade-clause-told
returns-in-Upgrade-clause-told g c = rw c.in-Upgrade.is ([], refl, tells_nothing g.E.Sink c.args.io.now.errors c.requires.told)

pub returns-in-Check-clause-told : goal.returns-in-Check-clause-told
returns-in-Check-clause-told g c = rw c.in-Check.is ([], refl, tells_nothing g.E.Sink c.args.io.now.errors c.requires.told)

pub returns-in-Judge-true-clause-told : goal.returns-in-Judge-true-clause-told
returns-in-Judge-true-clause-told g c = rw c.in-Judge-true.is ([], refl, tells_nothing g.E.Sink c.args.io.now.errors c.requires.told)

pub returns-in-Judge-false-clause-told : goal.returns-in-Judge-false-clause-told
returns-in-Judge-false-clause-told g c = rw c.in-Judge-false.is ([], refl, tells_nothing g.E.Sink c.args.io.now.errors c.requires.told)

pub returns-in-Run-clause-told : goal.returns-in-Run-clause-told
returns-in-Run-clause-told g c = rw c.in-Run.is ([], refl, tells_nothing g.E.Sink c.args.io.now.errors c.requires.told)

pub returns-in-Try-clause-told : goal.returns-in-Try-clause-told
returns-in-Try-clause-told g c = rw c.in-Try.is ([], refl, tells_nothing g.E.Sink c.args.io.now.errors c.requires.told)

pub returns-in-Step-clause-told : goal.returns-in-Step-clause-told
returns-in-Step-clause-told g c = rw c.in-Step.is ([], refl, tells_nothing g.E.Sink c.args.io.now.errors c.requires.told)

pub returns-in-Drive-clause-told : goal.returns-in-Drive-clause-told
returns-in-Drive-clause-told g c = rw c.in-Drive.is ([], refl, tells_nothing g.E.Sink c.args.io.now.errors c.requires.told)

pub returns-in-Why-clause-told : goal.returns-in-Why-clause-told
returns-in-Why-clause-told g c = rw c.in-Why.is ([], refl, tells_nothing g.E.Sink c.args.io.now.errors c.requires.told)

pub returns-in-Trace-clause-told : goal.returns-in-Trace-clause-told
returns-in-Trace-clause-told g c = rw c.in-Trace.is ([], refl, tells_nothing g.E.Sink c.args.io.now.errors c.requires.told)

pub returns-in-PlanSheet-clause-told : goal.returns-in-PlanSheet-clause-told
returns-in-PlanSheet-clause-told g c = rw c.in-PlanSheet.is ([], refl, tells_nothing g.E.Sink c.args.io.now.errors c.requires.told)

pub returns-in-Explain-clause-told : goal.returns-in-Explain-clause-told
returns-in-Explain-clause-told g c = rw c.in-Explain.is ([], refl, tells_nothing g.E.Sink c.args.io.now.errors c.requires.told)
