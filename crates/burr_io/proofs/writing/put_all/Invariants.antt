use Rattle.std.proofs.Common.{◌≡◌, [], length, true}
use Rattle.burr_io.proofs.Putting.{HasPut}
use Rattle.burr_io.proofs.writing.put_all.Given as goal

-- a front of the bytes went, and the rest is to go; the sink is as it was where there are no bytes, or where it had failed
abbrev pub invariant-loop-rest : goal.invariant-loop-rest
invariant-loop-rest g l = record {
  put : HasPut l.fn.bytes l.rest (g.W.Sink.taken l.fn.sink) (g.W.Sink.taken l.sink) (g.W.Sink.has_failed l.sink);
  nothing : l.fn.bytes ≡ [] → l.sink ≡ l.fn.sink;
  for_good : g.W.Sink.has_failed l.fn.sink ≡ true → l.sink ≡ l.fn.sink;
}

abbrev pub decreases-loop-rest : goal.decreases-loop-rest
decreases-loop-rest g l = length l.rest
