use Rattle.std.proofs.Common.{ℕ, List, take, drop, subst}
use Rattle.burr_io.specs.LineWriter.{GoesOf}
use Rattle.burr_io.proofs.Flushing.{OnOk-whole}
use Rattle.burr_io.proofs.line_writer.flush_lines.Goals as goal

pub returns-clause-ok : goal.returns-clause-ok
returns-clause-ok g c =
    OnOk-whole _ _ _ c.flush_front.result c.whole_lines_len-count.result c.args.held.now.items c.flush_front.new.held.items (subst (λ (l : List ℕ). GoesOf l (take c.whole_lines_len-count.result l) (drop c.whole_lines_len-count.result l)) c.as_slice.ensures.value c.whole_lines_len-count.ensures.goes) c.whole_lines_len-count.ensures.some c.flush_front.ensures.ok
