use Rattle.std.proofs.Common.{rules, FitsSigned, w64, slice_index_or, pos, to_z-of_z}
use Rattle.burr_forms.proofs.Carrying.{sum_fits, sum_next}
use Rattle.burr_forms.proofs.points.carry.Goals as goal

pub overflow_add-row : goal.overflow_add-row
overflow_add-row c =
    let value_fits : FitsSigned w64 (slice_index_or c.loop-place.row c.loop-place.place (pos 0)) = search rules in
    let step_fits : FitsSigned w64 (slice_index_or c.args.steps.now c.loop-place.place (pos 0)) = search rules in
    simp to_z-of_z (sum_fits c.loop-place.place c.args.row.now c.args.steps.now c.loop-place.row (pos 0) (pos 0) c.requires.places c.loop-place-test.true c.loop-place.invariant c.requires.bounded)

pub loop-place-preserved : goal.loop-place-preserved
loop-place-preserved c =
    let value_fits : FitsSigned w64 (slice_index_or c.loop-place.row c.loop-place.place (pos 0)) = search rules in
    let step_fits : FitsSigned w64 (slice_index_or c.args.steps.now c.loop-place.place (pos 0)) = search rules in
    let fits = sum_fits c.loop-place.place c.args.row.now c.args.steps.now c.loop-place.row (pos 0) (pos 0) c.requires.places c.loop-place-test.true c.loop-place.invariant c.requires.bounded in
    simp to_z-of_z (sum_next c.loop-place.place c.args.row.now c.args.steps.now c.loop-place.row (pos 0) (pos 0) c.requires.places c.loop-place-test.true c.loop-place.invariant)
