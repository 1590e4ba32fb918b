-- What a contract sees of a source.
use Rattle.burr_io.specs.declared.reading.Source.{Ghosts}

-- of each source of a type, the bytes that it has left, and whether it has failed
abbrev pub SourceView : Type 0 → Type 1
SourceView S = Ghosts S
