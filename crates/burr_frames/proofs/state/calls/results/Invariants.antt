use Rattle.burr_forms.specs.Rules.Points.{AreRanges}
use Rattle.burr_container.specs.Views.Refs.{exit_frame_of}
use Rattle.burr_container.proofs.Common.ListsRead.{IsRead}
use Rattle.burr_frames.proofs.state.calls.results.Given as goal

-- the first ones are read
abbrev pub invariant-loop-n : goal.invariant-loop-n
invariant-loop-n l = record {
  read : IsRead (exit_frame_of l.exit).results l.n l.ranges.items;
  are : AreRanges l.ranges.items;
}
