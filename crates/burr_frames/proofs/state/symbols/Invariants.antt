use Rattle.std.proofs.Common.{◌≡◌, ◌≤◌, ◌++◌, length, drop}
use Rattle.std.specs.Prelude.{All}
use Rattle.burr_forms.specs.Rules.Points.{AreRanges}
use Rattle.burr_container.specs.Views.Refs.{frame_of}
use Rattle.burr_frames.specs.Rules.States.{live_ranges}
use Rattle.burr_frames.specs.Views.StateViews.{IsSmallSlot}
use Rattle.burr_frames.proofs.Numbering.{IsNumbered}
use Rattle.burr_frames.proofs.state.symbols.Given as goal

-- the ranges of the slots so far, and then those of the others; and these slots have their symbols
abbrev pub invariant-loop-v : goal.invariant-loop-v
invariant-loop-v l = record {
  is : l.ranges.items ++ live_ranges (drop l.v (frame_of l.frame).slots) ≡ live_ranges (frame_of l.frame).slots;
  are : AreRanges l.ranges.items;
  few : length l.ranges.items ≤ l.v;
  numbered : IsNumbered (frame_of l.frame).slots l.v (length l.ranges.items) l.slots;
  small : All IsSmallSlot l.slots;
}
