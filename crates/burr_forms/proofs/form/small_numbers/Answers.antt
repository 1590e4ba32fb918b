-- One number more is small and given.
use Rattle.std.proofs.Common.{rules, ◌≡◌, ◌<◌, length, slice_index_or, pos, FitsSigned, w64, to_z-of_z}
use Rattle.burr_forms.specs.Rules.Forms.{IsSmall}
use Rattle.burr_forms.proofs.Narrowing.{give_next, small_next}
use Rattle.burr_forms.proofs.form.small_numbers.Goals as goal

pub loop-symbol-preserved : goal.loop-symbol-preserved
loop-symbol-preserved c =
    let fits : FitsSigned w64 c.in_ok-given.field-0 = search rules in
    let is : c.in_ok-given.field-0 ≡ slice_index_or c.args.numbers.now c.loop-symbol.symbol (pos 0) = search rules in
    let small : IsSmall (slice_index_or c.args.numbers.now c.loop-symbol.symbol (pos 0)) = search rules in
    let inside : c.loop-symbol.symbol < length c.args.numbers.now = search rules in
    record {
      given = simp to_z-of_z (give_next c.loop-symbol.symbol c.args.numbers.now c.loop-symbol.given (pos 0) c.in_ok-given.field-0 c.told-numbers c.loop-symbol-test.true is c.loop-symbol.invariant.given);
      small = small_next c.loop-symbol.symbol c.args.numbers.now (pos 0) inside c.loop-symbol.invariant.small small;
    }
