use Rattle.std.proofs.Common.{◌+◌, ◌<◌, length, get_or, refl, arith}
use Rattle.burr_blocking.proofs.Marks.{sets_more, sets_all}
use Rattle.burr_blocking.proofs.cell_tables.mark.Goals as goal

pub loop-place-preserved : goal.loop-place-preserved
loop-place-preserved c =
    let i = c.loop-place.place-index in
    let places = c.args.places.now in
    let lt : i < length places = omega arith in
    let inside : c.args.first + get_or places i 0 < length c.loop-place.marks = omega (arith, c.requires i 0 lt, c.loop-place.auto.marks) in
    sets_more c.args.marks.now c.loop-place.marks c.args.first places i 0 (c.args.first + get_or places i 0) lt refl inside c.loop-place.invariant

pub returns : goal.returns
returns c = sets_all c.args.marks.now c.loop-place.marks c.args.first c.args.places.now c.loop-place.place-index (omega arith) c.loop-place.invariant
