-- A number outside its range ends it; else one more is in its range.
use Rattle.std.proofs.Common.{rules, ◌≡◌, FitsSigned, w32, w64, ℤ, slice_index_or, pos, to_z-of_z, true, false, arith}
use Rattle.std.specs.Prelude.{int_lt}
use Rattle.std.proofs.lemmas.Int.{ints}
use Rattle.burr_text.proofs.Common.Tests.{no_iff}
use Rattle.burr_forms.specs.Rules.Points.{InRange}
use Rattle.burr_frames.proofs.Comparisons.{one_outside, in_box_more}
use Rattle.burr_frames.proofs.state.meeting.are_within.Goals as goal
use Rattle.burr_frames.proofs.state.meeting.are_within.Goals.{then-number-from-via-then-number-from, then-number-from-via-else-number-from+then-from-number}

pub returns-then-number-from : goal.returns-then-number-from
returns-then-number-from c =
    let range : ℤ × ℤ = slice_index_or c.args.ranges.now c.loop-place.place (pos 0, pos 0) in
    let number : ℤ = slice_index_or c.args.numbers.now c.loop-place.place (pos 0) in
    let low_fits : FitsSigned w32 range.0 = search rules in
    let high_fits : FitsSigned w32 range.1 = search rules in
    let fits : FitsSigned w64 number = search rules in
    let from_fits : FitsSigned w64 c.from.result = search rules in
    let low : c.from.result ≡ range.0 = simp to_z-of_z at c.from.ensures in
    no_iff
    (one_outside c.args.ranges.now c.args.numbers.now c.loop-place.place (pos 0, pos 0) c.loop-place-test.true
    (elim c.then-number-from.branch [
      | then-number-from-via-then-number-from w ↦
          (let less : int_lt number c.from.result ≡ true = simp to_z-of_z at w.if-number-from.true in λ i. omega (arith, ints, i.0, less, low))
      | then-number-from-via-else-number-from+then-from-number w ↦
          (let end_fits : FitsSigned w64 w.from-else-number-from.result = search rules in
          let high : w.from-else-number-from.result ≡ range.1 = simp to_z-of_z at w.from-else-number-from.ensures in
          let less : int_lt w.from-else-number-from.result number ≡ true = simp to_z-of_z at w.if-from-number.true in
          λ i. omega (arith, ints, i.1, less, high))
    ]))

pub loop-place-preserved : goal.loop-place-preserved
loop-place-preserved c =
    let k = c.loop-place.place in
    let range : ℤ × ℤ = slice_index_or c.args.ranges.now k (pos 0, pos 0) in
    let number : ℤ = slice_index_or c.args.numbers.now k (pos 0) in
    let low_fits : FitsSigned w32 range.0 = search rules in
    let high_fits : FitsSigned w32 range.1 = search rules in
    let fits : FitsSigned w64 number = search rules in
    let from_fits : FitsSigned w64 c.from.result = search rules in
    let end_fits : FitsSigned w64 c.from-else-number-from.result = search rules in
    let low : c.from.result ≡ range.0 = simp to_z-of_z at c.from.ensures in
    let high : c.from-else-number-from.result ≡ range.1 = simp to_z-of_z at c.from-else-number-from.ensures in
    let not_less : int_lt number c.from.result ≡ false = simp to_z-of_z at c.if-number-from.false in
    let not_more : int_lt c.from-else-number-from.result number ≡ false = simp to_z-of_z at c.if-from-number.false in
    let within : InRange range number = (omega (arith, ints, not_less, low), omega (arith, ints, not_more, high)) in
    in_box_more c.args.ranges.now c.args.numbers.now k (pos 0, pos 0) c.loop-place-test.true c.requires.places within c.loop-place.invariant
