-- The bytes are those of the number.
use Rattle.std.specs.Prelude.{FitsSigned}
use Rattle.std.specs.Int.{w16}
use Rattle.std.proofs.Common.{rules}
use Rattle.std.proofs.lemmas.Int.{to_z-of_z}
use Rattle.burr_container.proofs.Numbers.{cut_signed}
use Rattle.burr_container.proofs.reading.cursor.Cursor.signed.Goals as goal

pub returns : goal.returns
returns c =
    let took = c.in_ok-bytes.ensures in
    let fits : FitsSigned w16 c.read_i16.result = search rules in
    rw (to_z-of_z w16 c.read_i16.result fits)
    (cut_signed c.args.self.now.at c.args.self.now.rest.now c.in_ok-bytes.bytes.now c.read_i16.result _ _ took.taken.0 took.small c.read_i16.ensures took.taken.1)
