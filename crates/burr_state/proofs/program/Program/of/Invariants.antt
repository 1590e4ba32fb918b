use Rattle.std.specs.Prelude.{◌≡◌, length, take, map}
use Rattle.burr_container.specs.Rules.Plans.{Plan}
use Rattle.burr_container.specs.Views.Containers.{IsContainer}
use Rattle.burr_state.specs.Views.Programs.{bench_procedure}
use Rattle.burr_state.proofs.program.Program.of.Given as goal

-- the procedures so far
abbrev pub invariant-loop-number : goal.invariant-loop-number
invariant-loop-number l =
    (length l.procedures.items ≡ l.number)
    × ((p : Plan) → IsContainer l.container p → l.procedures.items ≡ take l.number (map bench_procedure p.procedures))
