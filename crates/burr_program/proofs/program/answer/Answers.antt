use Rattle.std.proofs.Common.{ap, refl, inl, inr}
use Rattle.burr_judge.specs.Statuses.{code_of}
use Rattle.burr_program.proofs.Replies.{reply_done}
use Rattle.burr_program.proofs.program.answer.Goals as goal

pub returns : goal.returns
returns g c =
    inl (reply_done g.W.Sink c.args.sink.now c.put_text-done.new.sink c.finish.new.sink g.E.Sink c.args.errors.now c.finish.new.errors
    _ c.put_text-done.result c.finish.result c.requires.fresh c.requires.told (rw c.deref-2.ensures at c.put_text-done.ensures) c.finish.ensures)
