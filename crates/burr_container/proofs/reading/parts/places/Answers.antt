-- A place is read each turn.
use Rattle.std.proofs.Common.{arith}
use Rattle.std.proofs.lemmas.Result.{err_from_is_err_and}
use Rattle.burr_container.specs.Rules.Faults.{place}
use Rattle.burr_container.proofs.EachWalk.{each_fails, each_ends}
use Rattle.burr_container.proofs.FormsRead.{places_at}
use Rattle.burr_container.proofs.PlacesRead.{places_go_on}
use Rattle.burr_container.proofs.reading.parts.places.Goals as goal

pub loop-preserved : goal.loop-preserved
loop-preserved c =
    let place = c.in_ok-place.ensures.reads in
    places_go_on c.args.live c.args.layout.pieces c.loop.counter c.args.cursor.now c.loop.cursor c.place.new.cursor place.0 (omega arith) c.loop.invariant
    c.in_ok-place.ensures.over place.1

pub returns-in_err-place-clause-reads : goal.returns-in_err-place-clause-reads
returns-in_err-place-clause-reads c =
    let p = err_from_is_err_and c.from_residual.result c.from_residual.ensures.1 in
    rw (p.1, p.2)
    (each_fails (place c.args.live) c.args.layout.pieces c.args.cursor.now c.loop.counter c.loop.cursor _ (omega arith) c.loop.invariant.walk c.in_err-place.ensures.reads)

pub returns-clause-reads : goal.returns-clause-reads
returns-clause-reads c =
    let all =
    each_ends (place c.args.live) c.args.layout.pieces c.args.cursor.now c.loop.counter c.loop.cursor (omega arith) c.loop.invariant.walk in
    rw c.from-count.ensures
    (places_at c.args.layout.pieces c.args.live c.args.cursor.now c.loop.cursor all.0 all.1 c.loop.invariant.walk.after)
