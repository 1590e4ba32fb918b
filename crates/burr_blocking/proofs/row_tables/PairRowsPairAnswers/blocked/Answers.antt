use Rattle.std.proofs.Common.{arith}
use Rattle.burr_text.proofs.Common.Tests.{no_of}
use Rattle.burr_blocking.proofs.Offsets.{none_set, column_few, before_few, row_few, row_inside, bit_read}
use Rattle.burr_blocking.proofs.row_tables.PairRowsPairAnswers.blocked.Goals as goal

pub overflow_mul-z : goal.overflow_mul-z
overflow_mul-z c =
    let at = c.units_from-x.result in
    omega (arith, before_few c.args.self.now c.args.displacement at.0 at.1 at.2 c.units_from-x.ensures (c.holds.ensures.0 c.if-holds.true))

pub overflow_add-z : goal.overflow_add-z
overflow_add-z c =
    let at = c.units_from-x.result in
    omega (arith, row_few c.args.self.now c.args.displacement at.0 at.1 at.2 c.units_from-x.ensures (c.holds.ensures.0 c.if-holds.true))

pub index-requires : goal.index-requires
index-requires c =
    let at = c.units_from-x.result in
    row_inside c.args.self.now c.args.displacement at.0 at.1 at.2 c.units_from-x.ensures (c.holds.ensures.0 c.if-holds.true)

pub has_bit-requires : goal.has_bit-requires
has_bit-requires c =
    let at = c.units_from-x.result in
    column_few c.args.self.now c.args.displacement at.0 at.1 at.2 c.units_from-x.ensures (c.holds.ensures.0 c.if-holds.true)

pub returns-then-holds : goal.returns-then-holds
returns-then-holds c =
    let at = c.units_from-x.result in
    bit_read c.args.self.now c.args.displacement at.0 at.1 at.2 c.units_from-x.ensures (c.holds.ensures.0 c.if-holds.true)
    c.index.result.now c.has_bit.result c.index.ensures c.has_bit.ensures

pub returns-else-holds : goal.returns-else-holds
returns-else-holds c =
    let at = c.units_from-x.result in
    rw c.if-holds.false (none_set c.args.self.now c.args.displacement at.0 at.1 at.2 c.units_from-x.ensures (no_of (rw c.if-holds.false at c.holds.ensures)))
