use Rattle.std.proofs.Common.{ap, refl, inl, inr}
use Rattle.burr_judge.specs.Statuses.{code_of}
use Rattle.burr_program.proofs.Bare.{bare_run}
use Rattle.burr_program.proofs.Jobs.{job_done}
use Rattle.burr_program.proofs.program.run_words.Goals as goal

pub returns-then-words-le1-clause-run : goal.returns-then-words-le1-clause-run
returns-then-words-le1-clause-run g c = λ few.
    rw c.code.ensures (bare_run g.R.Source c.args.io.now.source c.run_bare-done.new.source g.W.Sink c.args.io.now.sink c.run_bare-done.new.sink c.finish.new.sink g.E.Sink c.args.io.now.errors c.finish.new.errors
    c.run_bare-done.result c.finish.result c.requires.fresh c.run_bare-done.ensures.is c.finish.ensures.so)

pub returns-in-Ok-Reply-clause-end : goal.returns-in-Ok-Reply-clause-end
returns-in-Ok-Reply-clause-end g c = λ more. rw c.code-in-Ok-Reply.ensures (inl (_, c.answer.ensures))

pub returns-in-Ok-Job-clause-end : goal.returns-in-Ok-Job-clause-end
returns-in-Ok-Job-clause-end g c = λ more.
    rw c.code-in-Ok-Job.ensures (inr (inl (
      c.in-Ok-Job.job,
      rw c.in-Ok-Job.field-0-is at c.in-Ok-Job.ensures,
      job_done g.R.Source c.args.io.now.source c.do_job.new.io.source g.W.Sink c.args.io.now.sink c.do_job.new.io.sink c.finish-in-Ok-Job.new.sink
          g.E.Sink c.args.io.now.errors c.do_job.new.io.errors c.finish-in-Ok-Job.new.errors c.in-Ok-Job.job c.do_job.result c.status_of-done.result c.finish-in-Ok-Job.result
          c.requires.fresh (rw c.in-Ok-Job.field-0-is at c.do_job.ensures.ends) c.status_of-done.ensures (rw c.in-Ok-Job.field-0-is at c.do_job.ensures.told) c.finish-in-Ok-Job.ensures.so,
    )))

pub returns-in-Err-clause-end : goal.returns-in-Err-clause-end
returns-in-Err-clause-end g c = λ more. rw c.code-in-Err.ensures (inr (inr (ap code_of c.end_by.ensures.status, c.end_by.ensures.told.takes, refl)))
