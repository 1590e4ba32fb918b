use Rattle.burr_container.specs.Rules.Plans.{Plan}
use Rattle.burr_container.specs.Views.Containers.{IsContainer}
use Rattle.burr_container.proofs.Common.ListsRead.{IsRead}
use Rattle.burr_container.proofs.restoring.procedures.Given as goal

-- the first ones are read
abbrev pub invariant-loop-i : goal.invariant-loop-i
invariant-loop-i l = (p : Plan) → IsContainer l.container p → IsRead p.procedures l.i l.procedures.items
