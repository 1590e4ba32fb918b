use Rattle.std.proofs.Common.{◌≡◌, take, map}
use Rattle.burr_forms.specs.Rules.Forms.{substituted}
use Rattle.burr_frames.proofs.state.meeting.are_substituted.Given as goal

-- the first forms are the others with arguments in place of their symbols
abbrev pub invariant-loop-place : goal.invariant-loop-place
invariant-loop-place l = map (substituted l.arguments) (take l.place l.others) ≡ take l.place l.forms
