use Rattle.std.proofs.Common.{◌≡◌, ◌≤◌, ◌+◌, ◌*◌, ◌++◌, take, length}
use Rattle.burr_frames.specs.Views.Comparing.{offset_forms}
use Rattle.burr_frames.proofs.state.meeting.append_offsets.Given as goal

-- the first places' forms are put after
abbrev pub invariant-loop-piece : goal.invariant-loop-piece
invariant-loop-piece l = record {
  forms : l.forms.items ≡ l.fn.forms.items ++ offset_forms (take l.piece l.places);
  room : length l.forms.items ≤ length l.fn.forms.items + 3 * l.piece;
}
