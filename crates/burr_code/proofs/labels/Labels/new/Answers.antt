-- The bytes of 2 to 8 labels are 4 to 16, two a label.
use Rattle.std.proofs.Common.{arith}
use Rattle.burr_code.proofs.LabelLists.{offer, no_offer}
use Rattle.burr_code.proofs.labels.Labels.new.Goals as goal

pub invariant_of-result : goal.invariant_of-result
invariant_of-result c = offer c.args.bytes.now (λ i. omega (arith, c.type_inv.bytes i)) c.if-bytes-ne0.false (omega arith) (omega arith)

pub returns-then-bytes-ne0 : goal.returns-then-bytes-ne0
returns-then-bytes-ne0 c = λ labels are e. let no = no_offer c.args.bytes.now labels are e in omega (arith, no.0)

pub returns-in-2-to-8 : goal.returns-in-2-to-8
returns-in-2-to-8 c =
    let is = offer c.args.bytes.now (λ i. omega (arith, c.type_inv.bytes i)) c.if-bytes-ne0.false (omega arith) (omega arith) in
    (is.in_range, is.spelled)

pub returns-in_default : goal.returns-in_default
returns-in_default c = λ labels are e. let no = no_offer c.args.bytes.now labels are e in omega (arith, no.1, no.2)
