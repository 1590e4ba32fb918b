-- The bytes are those of the number.
use Rattle.burr_container.proofs.Numbers.{cut_word}
use Rattle.burr_container.proofs.reading.cursor.Cursor.word.Goals as goal

pub returns : goal.returns
returns c =
    let took = c.in_ok-bytes.ensures in
    cut_word c.args.self.now.at c.args.self.now.rest.now c.in_ok-bytes.bytes.now c.read_u16.result _ _ took.taken.0 took.small c.read_u16.ensures took.taken.1
