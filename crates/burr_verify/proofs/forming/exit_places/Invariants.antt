-- The first ones are read.
use Rattle.burr_container.proofs.Common.ListsRead.{IsRead}
use Rattle.burr_frames.specs.Rules.SpaceRules.{AllSmallPlaces}
use Rattle.burr_frames.specs.Views.Exits.{framed_ref}
use Rattle.burr_verify.proofs.forming.exit_places.Given as goal

abbrev pub invariant-loop-p : goal.invariant-loop-p
invariant-loop-p l = record {
  read : IsRead (framed_ref l.exit).places l.p l.places.items;
  small : AllSmallPlaces l.places.items;
}
