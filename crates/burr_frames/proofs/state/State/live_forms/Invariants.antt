use Rattle.std.proofs.Common.{◌≡◌, ◌≤◌, length}
use Rattle.burr_forms.specs.Rules.Forms.{AllSmallForms}
use Rattle.burr_container.specs.Views.Refs.{frame_of}
use Rattle.burr_frames.specs.Rules.Arrival.{live_forms}
use Rattle.burr_frames.proofs.LiveForms.{found_after}
use Rattle.burr_frames.proofs.state.State.live_forms.Given as goal

-- the forms found so far, and then those of the other slots
abbrev pub invariant-loop-v : goal.invariant-loop-v
invariant-loop-v l = record {
  is : found_after l.forms.items l.v (frame_of l.frame).slots l.self.slots ≡ live_forms (frame_of l.frame).slots l.self.slots;
  small : AllSmallForms l.forms.items;
  few : length l.forms.items ≤ l.v;
}
