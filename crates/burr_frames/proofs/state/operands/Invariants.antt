use Rattle.std.specs.Prelude.{map}
use Rattle.burr_forms.specs.Rules.Forms.{AllSmallForms}
use Rattle.burr_container.specs.Rules.Plans.{live_slots, over_symbols}
use Rattle.burr_container.specs.Views.Refs.{frame_of}
use Rattle.burr_container.proofs.Common.ListsRead.{IsRead}
use Rattle.burr_frames.proofs.state.operands.Given as goal

-- the first ones are read
abbrev pub invariant-loop-n : goal.invariant-loop-n
invariant-loop-n l = record {
  read : IsRead (map (over_symbols (live_slots l.frame.slots)) (frame_of l.frame).stack) l.n l.operands.items;
  small : AllSmallForms l.operands.items;
}
