-- A number that can grow grows; one that can't is put back to the lowest of its range.
use Rattle.std.proofs.Common.{rules, ◌≡◌, ◌≤◌, ◌-◌, length, arith, refl, FitsSigned, w32, slice_index_or, pos, ◌+ℤ◌, to_z-of_z, true, false}
use Rattle.std.specs.Prelude.{ℤ, int_lt}
use Rattle.burr_forms.proofs.Stepping.{turned}
use Rattle.burr_forms.proofs.Carrying.{raised}
use Rattle.burr_forms.proofs.points.advance.Goals as goal

pub returns-then-point-symbol : goal.returns-then-point-symbol
returns-then-point-symbol c =
    let range : ℤ × ℤ = slice_index_or c.args.ranges.now (c.loop-symbol.symbol - 1) (pos 0, pos 0) in
    let fits : FitsSigned w32 (slice_index_or c.loop-symbol.point (c.loop-symbol.symbol - 1) (pos 0)) = search rules in
    let high_fits : FitsSigned w32 range.1 = search rules in
    let less : int_lt (slice_index_or c.loop-symbol.point (c.loop-symbol.symbol - 1) (pos 0)) range.1 ≡ true = simp to_z-of_z at c.if-point-symbol.true in
    let next_fits : FitsSigned w32 (slice_index_or c.loop-symbol.point (c.loop-symbol.symbol - 1) (pos 0) +ℤ pos 1) = search (rules, less) in
    let within : c.loop-symbol.symbol ≤ length c.args.point.now = omega (arith, c.loop-symbol.invariant.few, c.requires.places) in
    simp to_z-of_z (raised c.loop-symbol.symbol c.args.ranges.now c.args.point.now c.loop-symbol.point (pos 0, pos 0) (pos 0) c.requires.places c.loop-symbol-test.true within c.loop-symbol.invariant.none c.loop-symbol.invariant.is less)

pub loop-symbol-preserved : goal.loop-symbol-preserved
loop-symbol-preserved c =
    let range : ℤ × ℤ = slice_index_or c.args.ranges.now (c.loop-symbol.symbol - 1) (pos 0, pos 0) in
    let fits : FitsSigned w32 (slice_index_or c.loop-symbol.point (c.loop-symbol.symbol - 1) (pos 0)) = search rules in
    let low_fits : FitsSigned w32 range.0 = search rules in
    let high_fits : FitsSigned w32 range.1 = search rules in
    let ended : int_lt (slice_index_or c.loop-symbol.point (c.loop-symbol.symbol - 1) (pos 0)) range.1 ≡ false = simp to_z-of_z at c.if-point-symbol.false in
    let within : c.loop-symbol.symbol ≤ length c.args.point.now = omega (arith, c.loop-symbol.invariant.few, c.requires.places) in
    let next = turned c.loop-symbol.symbol c.args.ranges.now c.args.point.now c.loop-symbol.point (pos 0, pos 0) (pos 0) range.0 c.requires.places c.loop-symbol-test.true within c.loop-symbol.invariant.none c.loop-symbol.invariant.is ended refl in
    record { few = omega (arith, c.loop-symbol.invariant.few); none = next.none; is = simp to_z-of_z next.is }
