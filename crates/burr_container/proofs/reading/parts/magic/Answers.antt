-- Other bytes are not the magic.
use Rattle.std.proofs.Common.{rules}
use Rattle.burr_container.proofs.PartsRead.{magic_fails}
use Rattle.burr_container.proofs.reading.parts.magic.Goals as goal

pub returns-then-ne : goal.returns-then-ne
returns-then-ne c =
    let took = c.in_ok-magic.ensures.taken in
    magic_fails c.args.cursor.now c.bytes.new.self c.in_ok-magic.magic.now took.0 took.1 (search rules)
