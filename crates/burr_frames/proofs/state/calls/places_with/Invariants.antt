use Rattle.std.proofs.Common.{◌≡◌, take}
use Rattle.burr_frames.specs.Rules.ControlRules.{substituted_places}
use Rattle.burr_frames.specs.Rules.SpaceRules.{AllSmallPlaces}
use Rattle.burr_frames.proofs.state.calls.places_with.Given as goal

-- the first places have the symbols in them
abbrev pub invariant-loop-piece : goal.invariant-loop-piece
invariant-loop-piece l = record {
  is : l.places.items ≡ substituted_places l.symbols (take l.piece l.there);
  small : AllSmallPlaces l.places.items;
}
