-- A lowest number more is put in place.
use Rattle.std.proofs.Common.{rules, refl, sym, arith, pos, slice_index_or, to_z-of_z, FitsSigned, w32}
use Rattle.std.specs.Prelude.{ℤ}
use Rattle.burr_forms.proofs.Placing.{put_next, all_placed}
use Rattle.burr_forms.proofs.points.lowest.Goals as goal

pub loop-symbol-preserved : goal.loop-symbol-preserved
loop-symbol-preserved c =
    let fits : FitsSigned w32 (slice_index_or c.args.ranges.now c.loop-symbol.symbol (pos 0, pos 0)).0 = search rules in
    simp to_z-of_z (put_next (λ (range : ℤ × ℤ). range.0) c.loop-symbol.symbol c.args.ranges.now _ c.loop-symbol.point (pos 0, pos 0) _ (sym c.told-ranges) (omega (arith, c.told-ranges)) refl c.loop-symbol.invariant)

pub returns : goal.returns
returns c = all_placed (λ (range : ℤ × ℤ). range.0) c.loop-symbol.symbol c.args.ranges.now _ c.loop-symbol.point (sym c.told-ranges) (omega (arith, c.told-ranges)) c.loop-symbol.invariant
