use Rattle.std.proofs.Common.{◌≡◌, ◌<◌, ◌-◌, false, vec_len}
use Rattle.std.specs.Io.KnownBytes.{Consumes}
use Rattle.burr_runs.proofs.input.read_whole.Given as goal

-- what was read is what the source has lost, and where something was read nothing failed
abbrev pub invariant-loop-buffer : goal.invariant-loop-buffer
invariant-loop-buffer g l = record {
  gave : Consumes (g.R.Source.left l.fn.source) (g.R.Source.left l.source) l.bytes.items;
  went : 0 < vec_len l.bytes → g.R.Source.has_failed l.source ≡ false;
}

abbrev pub decreases-loop-buffer : goal.decreases-loop-buffer
decreases-loop-buffer g l = 16777217 - vec_len l.bytes
