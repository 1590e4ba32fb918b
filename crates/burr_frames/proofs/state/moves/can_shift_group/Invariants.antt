use Rattle.std.proofs.Common.{drop}
use Rattle.std.specs.Prelude.{◌↔◌}
use Rattle.burr_code.specs.Places.{changed, at_position}
use Rattle.burr_frames.specs.Rules.SpaceRules.{moved, moved_forms, AllSmallPlaces}
use Rattle.burr_frames.proofs.state.moves.can_shift_group.Given as goal

-- all are small where those to come are
abbrev pub invariant-loop-piece : goal.invariant-loop-piece
invariant-loop-piece l =
    AllSmallPlaces (changed (at_position (moved_forms l.direction)) l.group l.piece (drop l.piece l.places))
    ↔ AllSmallPlaces (moved l.group l.direction l.places)
