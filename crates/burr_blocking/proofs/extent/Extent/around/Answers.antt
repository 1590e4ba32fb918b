use Rattle.std.proofs.Common.{◌≡◌, get_or, subst, rules, to_z-of_z, w32, FitsSigned, arith}
use Rattle.std.proofs.lemmas.Int.{ints, clamps}
use Rattle.burr_voxels.specs.declared.cell.Cell.{Cell}
use Rattle.burr_voxels.specs.Grid.{origin}
use Rattle.burr_voxels.proofs.Common.Ahead.{same_cell}
use Rattle.std.specs.List.{All}
use Rattle.std.proofs.lemmas.List.{take_all}
use Rattle.burr_blocking.specs.Views.Corners.{IsBetween, lower_of, upper_of}
use Rattle.burr_blocking.proofs.Reaches.{farther_within}
use Rattle.burr_blocking.proofs.Hulls.{hull_none, hull_more, corners_more}
use Rattle.burr_blocking.proofs.extent.Extent.around.Goals as goal

pub loop-cell-init : goal.loop-cell-init
loop-cell-init c = hull_none _ c.first_of-first.result c.requires.small c.first_of-first.ensures.first c.first_of-first.ensures.near

pub loop-cell-preserved : goal.loop-cell-preserved
loop-cell-preserved c =
    let cell : Cell = get_or c.args.cells.now c.loop-cell.cell-index origin in
    let least : Cell = record { x = c.min.result; y = c.min-in-loop-cell.result; z = c.min-in-loop-cell-2.result } in
    let greatest : Cell = record { x = c.max.result; y = c.max-in-loop-cell.result; z = c.max-in-loop-cell-2.result } in
    let lower : least ≡ lower_of c.loop-cell.least cell = same_cell _ _ (omega (arith, ints, clamps, c.min.ensures.value)) (omega (arith, ints, clamps, c.min-in-loop-cell.ensures.value)) (omega (arith, ints, clamps, c.min-in-loop-cell-2.ensures.value)) in
    let upper : greatest ≡ upper_of c.loop-cell.greatest cell = same_cell _ _ (omega (arith, ints, clamps, c.max.ensures.value)) (omega (arith, ints, clamps, c.max-in-loop-cell.ensures.value)) (omega (arith, ints, clamps, c.max-in-loop-cell-2.ensures.value)) in
    let least_x : FitsSigned w32 c.min.result = search rules in
    let least_y : FitsSigned w32 c.min-in-loop-cell.result = search rules in
    let least_z : FitsSigned w32 c.min-in-loop-cell-2.result = search rules in
    let greatest_x : FitsSigned w32 c.max.result = search rules in
    let greatest_y : FitsSigned w32 c.max-in-loop-cell.result = search rules in
    let greatest_z : FitsSigned w32 c.max-in-loop-cell-2.result = search rules in
    simp to_z-of_z (hull_more _ c.loop-cell.cell-index c.loop-cell.least c.loop-cell.greatest origin least greatest c.requires.small c.requires.near (omega arith) lower upper c.loop-cell.invariant)

pub invariant_of-result : goal.invariant_of-result
invariant_of-result c = record {
  near = farther_within 79 158 c.loop-cell.least (omega arith) c.loop-cell.invariant.near;
  small = corners_more c.loop-cell.least c.loop-cell.greatest c.loop-cell.invariant.small;
}

pub returns-clause-holds : goal.returns-clause-holds
returns-clause-holds c =
    subst (All (IsBetween c.loop-cell.least c.loop-cell.greatest)) (take_all c.loop-cell.cell-index c.args.cells.now (omega arith)) c.loop-cell.invariant.holds

pub returns-clause-small : goal.returns-clause-small
returns-clause-small c =
    record { near = c.loop-cell.invariant.near; far = c.loop-cell.invariant.far; small = c.loop-cell.invariant.small }
