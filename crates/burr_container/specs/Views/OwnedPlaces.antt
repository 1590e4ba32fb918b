-- What the owned types of plans stand for.
use Rattle.std.specs.Prelude.{List, map}
use Rattle.burr_code.specs.declared.placement.Placement.{Placement}
use Rattle.burr_code.specs.declared.placement.Placement.TheVariants.{Apart, On}
use Rattle.burr_container.specs.declared.plan.Place.{Place}
use Rattle.burr_container.specs.declared.plan.Place.TheVariants as place
use Rattle.burr_container.specs.Rules.Plans.{FormCell}

-- where the piece lies
abbrev pub placement_of : Place → Placement FormCell
placement_of place.Apart = Apart
placement_of (place.On tray x y z) = On tray (record { x = x; y = y; z = z })

abbrev pub placements_of : List Place → List (Placement FormCell)
placements_of places = map placement_of places
