use Rattle.std.proofs.Common.{◌≡◌, take}
use Rattle.burr_forms.specs.Rules.Forms.{values}
use Rattle.burr_frames.proofs.state.meeting.are_values.Given as goal

-- the first numbers are the values
abbrev pub invariant-loop-place : goal.invariant-loop-place
invariant-loop-place l = values l.symbols (take l.place l.forms) ≡ take l.place l.numbers
