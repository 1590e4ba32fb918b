use Rattle.std.proofs.Common.{take}
use Rattle.burr_forms.specs.Rules.Points.{InBox}
use Rattle.burr_frames.proofs.state.meeting.are_within.Given as goal

-- the first numbers are in their ranges
abbrev pub invariant-loop-place : goal.invariant-loop-place
invariant-loop-place l = InBox (take l.place l.ranges) (take l.place l.numbers)
