use Rattle.std.specs.Prelude.{map}
use Rattle.burr_container.specs.Rules.Plans.{live_slots, place_over_symbols}
use Rattle.burr_container.specs.Views.Refs.{frame_of}
use Rattle.burr_frames.specs.Rules.SpaceRules.{AllSmallPlaces}
use Rattle.burr_container.proofs.Common.ListsRead.{IsRead}
use Rattle.burr_frames.proofs.state.places.Given as goal

-- the first ones are read
abbrev pub invariant-loop-p : goal.invariant-loop-p
invariant-loop-p l = record {
  read : IsRead (map (place_over_symbols (live_slots l.frame.slots)) (frame_of l.frame).places) l.p l.places.items;
  small : AllSmallPlaces l.places.items;
}
