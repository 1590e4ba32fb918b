-- The place that is asked for is still to come.
use Rattle.std.proofs.Common.{◌-◌}
use Rattle.std.specs.Prelude.{map, slice_get}
use Rattle.burr_container.specs.Rules.Plans.{place_over_symbols}
use Rattle.burr_container.specs.Views.Refs.{places_of}
use Rattle.burr_container.proofs.PlaceWalk.{IsWalk}
use Rattle.burr_container.proofs.lists.PlaceList.place.Given as goal

abbrev pub invariant-loop : goal.invariant-loop
invariant-loop l =
    IsWalk l.self.live (l.self.count - l.counter) (l.p - l.counter) l.rest
    (slice_get (map (place_over_symbols l.self.live) (places_of l.self)) l.p)
