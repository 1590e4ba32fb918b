-- What a sink of whole lines over memory has taken.
use Rattle.std.specs.Prelude.{◌≡◌, ◌++◌, ℕ, List}
use Rattle.burr_io.specs.declared.writing.VecSink.{VecSink}
use Rattle.burr_io.specs.LineWriter.{Lines}

-- the bytes that went to the memory, and those that are held back
abbrev pub HoldsAll : Lines VecSink → List ℕ → Type 0
HoldsAll lines bytes = bytes ≡ lines.sink.bytes.items ++ lines.held
