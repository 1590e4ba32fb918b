use Rattle.std.proofs.Common.{rules}
use Rattle.burr_io.proofs.Flushing.{Puts-whole, Puts-less, front_of, front_of_less}
use Rattle.burr_io.proofs.line_writer.LineWriter.flush.Goals as goal
use Rattle.burr_io.proofs.line_writer.LineWriter.flush.Goals.{in-Ok, in-Err}

pub returns-clause-puts : goal.returns-clause-puts
returns-clause-puts g c = elim c.match-flush_front.branch [
  | in-Ok w ↦ rw (w.result-is, ← c.self.view_is) (Puts-whole c.len-count.result c.self.inside.held.items c.flush_front.new.held.items _ (search rules) w.in-Ok.ensures.ok)
  | in-Err w ↦ rw (w.result-is, ← c.self.view_is) (Puts-less c.len-count.result c.self.inside.held.items c.flush_front.new.held.items _ w.in-Err.ensures.err)
]

pub returns-clause-kept : goal.returns-clause-kept
returns-clause-kept g c = elim c.match-flush_front.branch [
  | in-Ok w ↦ rw (← c.self.view_is) (front_of w.in-Ok.ensures.ok)
  | in-Err w ↦ rw (← c.self.view_is) (front_of_less w.in-Err.ensures.err)
]
