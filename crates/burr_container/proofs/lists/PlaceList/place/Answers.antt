-- Each place on the way is gone over; the one that is asked for then stands in front.
use Rattle.std.proofs.Common.{◌+◌, ◌-◌, ◌∙◌, ap, sym, arith}
use Rattle.std.specs.Prelude.{slice_get, map, Some}
use Rattle.burr_container.specs.Rules.Plans.{place_over_symbols}
use Rattle.burr_container.specs.Views.Refs.{places_of}
use Rattle.burr_container.proofs.PlaceWalk.{first_there, walk_on, walk_ends}
use Rattle.burr_container.proofs.lists.PlaceList.place.Goals as goal

pub after_place-rest-requires-clause-whole : goal.after_place-rest-requires-clause-whole
after_place-rest-requires-clause-whole c =
    let run = c.args.self.now in
    (first_there run.live (run.count - c.loop.counter) c.loop.rest.now (omega (arith, c.requires)) c.loop.invariant.are).whole

pub loop-preserved : goal.loop-preserved
loop-preserved c =
    let run = c.args.self.now in
    let bytes = c.loop.rest.now in
    let answer = slice_get (map (place_over_symbols run.live) (places_of run)) c.args.p in
    rw c.after_place-rest.ensures
    (walk_on run.live (run.count - c.loop.counter) (c.args.p - c.loop.counter) (run.count - (c.loop.counter + 1)) (c.args.p - (c.loop.counter + 1)) bytes answer (omega (arith, c.requires)) (omega arith) c.loop.invariant)

pub place_of-requires-clause-whole : goal.place_of-requires-clause-whole
place_of-requires-clause-whole c =
    let run = c.args.self.now in
    (first_there run.live (run.count - c.loop.counter) c.loop.rest.now (omega (arith, c.requires)) c.loop.invariant.are).whole

pub returns-clause-place : goal.returns-clause-place
returns-clause-place c =
    let run = c.args.self.now in
    let bytes = c.loop.rest.now in
    let answer = slice_get (map (place_over_symbols run.live) (places_of run)) c.args.p in
    walk_ends run.live (run.count - c.loop.counter) (c.args.p - c.loop.counter) bytes answer (omega (arith, c.requires)) (omega arith) c.loop.invariant
    ∙ sym (ap Some c.place_of.ensures.place)
