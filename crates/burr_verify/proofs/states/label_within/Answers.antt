-- A label stands between two places where more stand before the second than before the first.
use Rattle.std.proofs.Common.{arith, length}
use Rattle.std.specs.Prelude.{slice_get}
use Rattle.burr_container.specs.declared.procedure_ref.StoredProcedure.{StoredProcedure}
use Rattle.burr_verify.proofs.LabelPlaces.{below_few, within, none_within, no_more_here}
use Rattle.burr_verify.proofs.states.label_within.Goals as goal

pub returns-then-label-count_before-clause-has : goal.returns-then-label-count_before-clause-has
returns-then-label-count_before-clause-has c =
    below_few (slice_get c.args.procedure.container.now.procedures c.args.procedure.number) (λ (p : StoredProcedure). length p.labels.starts) c.count_before-label.result c.count_before.result c.count_before.ensures.few c.if-label-count_before.true

pub returns-then-label-count_before-clause-found : goal.returns-then-label-count_before-clause-found
returns-then-label-count_before-clause-found c p here kept at =
    within here c.args.from c.args.end c.count_before-label.result c.count_before.result
    (c.count_before-label.ensures.before p here kept at) (c.count_before.ensures.before p here kept at) c.if-label-count_before.true
    (no_more_here c.args.procedure.container.now c.args.procedure.number c.count_before.result c.count_before.ensures.many p here kept at)

pub returns-clause-found : goal.returns-clause-found
returns-clause-found c p here kept at =
    none_within here c.args.from c.args.end c.count_before-label.result c.count_before.result
    (c.count_before-label.ensures.before p here kept at) (c.count_before.ensures.before p here kept at) (omega (arith, c.if-label-count_before.false))
