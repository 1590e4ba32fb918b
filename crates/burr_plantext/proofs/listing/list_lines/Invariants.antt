-- What is written, whatever procedures are next, is the whole of the plan.
use Rattle.burr_container.specs.Rules.Plans.{Plan}
use Rattle.burr_container.specs.Views.Containers.{IsContainer}
use Rattle.burr_plantext.proofs.Blocks.{AreProceduresWritten}
use Rattle.burr_plantext.proofs.listing.list_lines.Given as goal

abbrev pub invariant-loop-i : goal.invariant-loop-i
invariant-loop-i l =
    (p : Plan) → IsContainer l.container p → AreProceduresWritten l.places p l.i l.text.items
