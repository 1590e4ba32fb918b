use Rattle.std.proofs.Common.{◌≡◌, ◌∙◌, rules, to_z-of_z, w32, FitsSigned, arith}
use Rattle.std.specs.Prelude.{pos}
use Rattle.std.specs.Int.{int_max}
use Rattle.std.proofs.lemmas.Int.{ints}
use Rattle.burr_text.proofs.Common.Tests.{yes_iff}
use Rattle.burr_blocking.proofs.Shifts.{wide_row, clear_from_shifted}
use Rattle.burr_blocking.proofs.row_tables.is_clear_from.Goals as goal

pub returns-then-column-ge32 : goal.returns-then-column-ge32
returns-then-column-ge32 c = yes_iff (λ k after. wide_row c.args.row k c.ranges.row.fits (omega (arith, ints, after, c.if-column-ge32.true)))

pub returns : goal.returns
returns c =
    let column : FitsSigned w32 c.args.column = search rules in
    let fits : FitsSigned w32 c.max.result = search rules in
    let is : pos c.as_number.result ≡ int_max c.args.column (pos 0) = (simp to_z-of_z at c.as_number.ensures) ∙ (simp to_z-of_z at c.max.ensures.value) in
    clear_from_shifted c.args.row c.as_number.result c.args.column c.is_clear.result is c.is_clear.ensures
