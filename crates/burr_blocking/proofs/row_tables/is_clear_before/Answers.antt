use Rattle.std.proofs.Common.{◌≡◌, ◌∙◌, rules, to_z-of_z, w32, FitsSigned, arith}
use Rattle.std.specs.Prelude.{pos}
use Rattle.std.specs.Int.{int_min}
use Rattle.std.proofs.lemmas.Int.{ints, clamps}
use Rattle.burr_blocking.proofs.Shifts.{clear_before_shifted}
use Rattle.burr_blocking.proofs.row_tables.is_clear_before.Goals as goal

pub returns-else-column-le0 : goal.returns-else-column-le0
returns-else-column-le0 c =
    let column : FitsSigned w32 c.args.column = search rules in
    let fits : FitsSigned w32 c.min.result = search rules in
    let is : pos c.as_number.result ≡ int_min c.args.column (pos 32) = (simp to_z-of_z at c.as_number.ensures) ∙ (simp to_z-of_z at c.min.ensures.value) in
    clear_before_shifted c.args.row c.as_number.result c.args.column c.is_clear.result c.ranges.row.fits is (omega (arith, ints, clamps, is, c.if-column-le0.false)) c.is_clear.ensures
