-- What is written, and what is still to be written, are all of it.
use Rattle.std.proofs.Common.{◌≡◌, ◌++◌, drop}
use Rattle.burr_container.specs.Rules.Spelling.{places_bytes}
use Rattle.burr_container.specs.Views.OwnedPlaces.{placements_of}
use Rattle.burr_container.proofs.writing.add_places.Given as goal

abbrev pub invariant-loop-place : goal.invariant-loop-place
invariant-loop-place l =
    l.bytes.items ++ places_bytes l.live (placements_of (drop l.place-index l.places))
    ≡ l.initial.bytes.items ++ places_bytes l.live (placements_of l.places)
