-- The places from here on decide.
use Rattle.std.proofs.Common.{◌≡◌, drop}
use Rattle.std.specs.List.{list_all}
use Rattle.burr_container.specs.Rules.Fitting.{is_place}
use Rattle.burr_container.specs.Views.OwnedPlaces.{placements_of}
use Rattle.burr_container.proofs.fitting.all_places.Given as goal

abbrev pub invariant-loop-place : goal.invariant-loop-place
invariant-loop-place l =
    list_all (is_place l.live) (placements_of (drop l.place-index l.places))
    ≡ list_all (is_place l.live) (placements_of l.places)
