-- The code is as long as its length says, which is above the last label.
use Rattle.std.proofs.Common.{rules, ◌≡◌, refl}
use Rattle.burr_container.proofs.PartsRead.{least_above, code_at}
use Rattle.burr_container.proofs.reading.parts.code.Goals.{in-None, in-Some}
use Rattle.burr_container.proofs.reading.parts.code.Goals as goal

pub returns : goal.returns
returns c =
    let took = c.in_ok-code.ensures in
    let least : c.match-last.least ≡ least_above c.args.last =
    elim c.match-last.branch [ in-None w ↦ rw (w.least-is, w.in-None.is) refl | in-Some w ↦ rw (w.least-is, w.in-Some.is) (search rules) ] in
    code_at c.args.last c.match-last.least c.in_ok-length.length c.args.cursor.now c.word_within.new.cursor c.bytes.new.self c.in_ok-code.code.now least
    c.in_ok-length.ensures took.taken.0 took.small took.taken.1
