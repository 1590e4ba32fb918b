-- Where the others stand, all stand; and the places so far are read.
use Rattle.burr_container.proofs.PlacesRead.{ArePlacesRead}
use Rattle.burr_container.proofs.reading.parts.places.Given as goal

abbrev pub invariant-loop : goal.invariant-loop
invariant-loop l = ArePlacesRead l.live l.layout.pieces l.initial.cursor l.counter l.cursor
