use Rattle.std.proofs.Common.{◌≡◌, take}
use Rattle.std.specs.Prelude.{map}
use Rattle.burr_code.specs.Places.{at_position}
use Rattle.burr_frames.specs.Rules.States.{places_at}
use Rattle.burr_verify.specs.Views.PointNumbers.{cell_of}
use Rattle.burr_verify.proofs.point_state.places_of.Given as goal

-- the first places are taken at the point
abbrev pub invariant-loop-place : goal.invariant-loop-place
invariant-loop-place l = map (at_position cell_of) l.placed.items ≡ places_at l.symbols.items (take l.place-index l.places)
