-- What is written, whatever labels are next, is the whole of the code.
use Rattle.std.proofs.Common.{Some, None, if◌then◌else◌}
use Rattle.burr_container.specs.Views.Containers.{OfProcedure}
use Rattle.burr_plantext.proofs.Blocks.{AreBlocksWritten}
use Rattle.burr_plantext.proofs.code.add_code.Given as goal

abbrev pub invariant-loop-n : goal.invariant-loop-n
invariant-loop-n l =
    OfProcedure l.container l.i (λ p q.
    AreBlocksWritten p q (if l.places then Some l.i else None) l.fn.text.items l.n l.text.items)
