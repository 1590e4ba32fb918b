use Rattle.std.proofs.Common.{◌≡◌, ◌≤◌, ◌*◌, take, length}
use Rattle.burr_forms.specs.Rules.Forms.{AllSmallForms}
use Rattle.burr_frames.specs.Views.Clearing.{offsets_in}
use Rattle.burr_frames.proofs.state.moves.put_offsets.Given as goal

-- the forms of the first places
abbrev pub invariant-loop-place : goal.invariant-loop-place
invariant-loop-place l = record {
  forms : l.offsets.items ≡ offsets_in l.tray (take l.place-index l.places);
  small : AllSmallForms l.offsets.items;
  room : length l.offsets.items ≤ 3 * l.place-index;
}
