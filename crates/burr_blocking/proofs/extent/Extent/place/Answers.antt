use Rattle.std.proofs.Common.{refl, arith}
use Rattle.std.proofs.lemmas.Nat.{mul-le}
use Rattle.burr_blocking.proofs.Marks.{place_lt}
use Rattle.burr_blocking.proofs.Made.{in_rows}
use Rattle.burr_blocking.proofs.extent.Extent.place.Goals as goal

pub row-requires : goal.row-requires
row-requires c = in_rows c.args.self c.args.displacement c.requires

pub overflow_mul-result : goal.overflow_mul-result
overflow_mul-result c = omega (arith, mul-le c.row.result c.wide.result 960 31 c.row.ensures.few c.wide.ensures.few)

pub overflow_add-result : goal.overflow_add-result
overflow_add-result c = omega (arith, mul-le c.row.result c.wide.result 960 31 c.row.ensures.few c.wide.ensures.few, c.column.ensures.bound)

pub returns-clause-value : goal.returns-clause-value
returns-clause-value c = rw (c.row.ensures.value, c.wide.ensures.count, c.column.ensures.value) refl

pub returns-clause-bound : goal.returns-clause-bound
returns-clause-bound c = rw (c.row.ensures.value, c.wide.ensures.count, c.column.ensures.value) (place_lt c.args.self c.args.displacement c.requires)
