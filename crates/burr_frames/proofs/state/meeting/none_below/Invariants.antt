use Rattle.std.proofs.Common.{take}
use Rattle.burr_forms.specs.Rules.Forms.{values}
use Rattle.burr_frames.specs.Views.Comparing.{NoneBelow}
use Rattle.burr_frames.proofs.state.meeting.none_below.Given as goal

-- none of the first numbers is below
abbrev pub invariant-loop-place : goal.invariant-loop-place
invariant-loop-place l = NoneBelow (values l.symbols (take l.place l.forms)) (take l.place l.numbers)
