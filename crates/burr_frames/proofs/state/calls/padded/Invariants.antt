use Rattle.std.proofs.Common.{◌≡◌, pos}
use Rattle.burr_forms.specs.Rules.Forms.{number}
use Rattle.burr_frames.proofs.CallArguments.{filled}
use Rattle.burr_frames.proofs.state.calls.padded.Given as goal

-- the first forms are in their places
abbrev pub invariant-loop-symbol : goal.invariant-loop-symbol
invariant-loop-symbol l = l.padded ≡ filled (number (pos 0)) l.symbol l.forms
