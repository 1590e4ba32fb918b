-- One more is restored.
use Rattle.std.proofs.Common.{◌-◌, ◌+◌, ◌∙◌, ap, [], ◌∷◌, arith}
use Rattle.std.proofs.lemmas.List.{map-append}
use Rattle.burr_container.specs.Views.OwnedPlaces.{placement_of, placements_of}
use Rattle.burr_container.specs.Views.Refs.{places_of}
use Rattle.burr_container.proofs.PlaceWalk.{first_there}
use Rattle.burr_container.proofs.Restored.{place_added, places_whole}
use Rattle.burr_container.proofs.restoring.places.Goals as goal

pub of-requires-clause-whole : goal.of-requires-clause-whole
of-requires-clause-whole c =
    let list = c.args.list.now in
    (first_there list.live (list.count - c.loop.counter) c.loop.rest.now (omega (arith, c.loop-test.true)) c.loop.invariant.stand).whole

pub after_place-rest-requires-clause-first : goal.after_place-rest-requires-clause-first
after_place-rest-requires-clause-first c =
    let list = c.args.list.now in
    (first_there list.live (list.count - c.loop.counter) c.loop.rest.now (omega (arith, c.loop-test.true)) c.loop.invariant.stand).there

pub after_place-rest-requires-clause-whole : goal.after_place-rest-requires-clause-whole
after_place-rest-requires-clause-whole c =
    let list = c.args.list.now in
    (first_there list.live (list.count - c.loop.counter) c.loop.rest.now (omega (arith, c.loop-test.true)) c.loop.invariant.stand).whole

pub loop-preserved : goal.loop-preserved
loop-preserved c =
    let list = c.args.list.now in
    let k = c.loop.counter in
    let before = c.loop.places.items in
    place_added list.live (places_of list) (list.count - k) (list.count - (k + 1)) (placements_of before) (placements_of c.push.new.self.items)
    c.loop.rest.now c.after_place-rest.result.now (placement_of c.of.result) (omega (arith, c.loop-test.true))
    (ap placements_of c.in_ok-push.ensures.items ∙ map-append placement_of before (c.of.result ∷ [])) c.of.ensures c.after_place-rest.ensures
    c.loop.invariant

pub of-requires-clause-first : goal.of-requires-clause-first
of-requires-clause-first c =
    let list = c.args.list.now in
    (first_there list.live (list.count - c.loop.counter) c.loop.rest.now (omega (arith, c.loop-test.true)) c.loop.invariant.stand).there

pub returns : goal.returns
returns c =
    let list = c.args.list.now in
    places_whole list.live (places_of list) (list.count - c.loop.counter) (placements_of c.loop.places.items) c.loop.rest.now (omega (arith, c.loop-test.false))
    c.loop.invariant
