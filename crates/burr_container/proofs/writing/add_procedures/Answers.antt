-- The next procedure is written.
use Rattle.std.proofs.Common.{◌++◌, ◌+◌, drop, arith, [], sym, ap, ◌∙◌}
use Rattle.std.specs.List.{flat_map}
use Rattle.burr_container.specs.Rules.Plans.{PlanProcedure}
use Rattle.burr_container.specs.Rules.Spelling.{procedure_bytes}
use Rattle.burr_container.proofs.Written.{next_of, one_more}
use Rattle.burr_container.proofs.writing.add_procedures.Goals as goal

pub loop-procedure-preserved : goal.loop-procedure-preserved
loop-procedure-preserved c =
    let all = c.args.procedures.now in
    let i = c.loop-procedure.procedure-index in
    let item = c.procedure-item.result in
    let bytes_of = procedure_bytes c.args.version in
    let next = next_of bytes_of i all item (omega arith) ∙ ap (λ (x : PlanProcedure). bytes_of x ++ flat_map bytes_of (drop (i + 1) all)) (sym c.procedure-item.is) in
    rw c.in_ok-add_procedure.ensures
    (one_more [] c.loop-procedure.bytes.items (bytes_of item) (flat_map bytes_of (drop (i + 1) all)) _ _ c.loop-procedure.invariant next)
