use Rattle.std.proofs.Common.{◌-◌}
use Rattle.burr_container.specs.Views.OwnedPlaces.{placements_of}
use Rattle.burr_container.specs.Views.Refs.{places_of}
use Rattle.burr_container.proofs.Restored.{ArePlaces}
use Rattle.burr_container.proofs.restoring.places.Given as goal

-- the other places stand in the rest
abbrev pub invariant-loop : goal.invariant-loop
invariant-loop l =
    ArePlaces l.list.live (places_of l.list) (l.list.count - l.counter) (placements_of l.places.items) l.rest
