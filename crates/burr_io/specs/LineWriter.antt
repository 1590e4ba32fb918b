-- What a sink of whole lines holds back and hands on.
use Rattle.std.specs.Prelude.{◌≡◌, ◌≢◌, ◌⊎◌, ◌<◌, ℕ, List, [], ◌++◌, length, take, drop, true, false}
use Rattle.std.specs.Io.KnownBytes.{Appends, append_known}
use Rattle.burr_text.specs.Lines.{IsLines, IsUnended}
use Rattle.burr_io.specs.Sink.{SinkView}

-- A sink below, and what is held back of what was put.
pub record Lines (S : Type 0) : Type 0 where
  pub sink : S
  pub held : List ℕ

-- what a sink of whole lines shows: it has taken what the sink below has taken and what is held back
abbrev pub lines_view : {S : Type 0} → SinkView S → SinkView (Lines S)
lines_view sink = record {
  taken = λ l. append_known (sink.taken l.sink) l.held;
  has_failed = λ l. sink.has_failed l.sink;
}

-- of bytes that were held back the first `count` were handed on, and the others are still held back
pub record Flushes {S : Type 0} (sink : SinkView S) (old new : S) (count : ℕ)
    (old_held new_held : List ℕ) : Type 0 where
  pub takes : Appends (sink.taken old) (sink.taken new) (take count old_held)
  pub keeps : new_held ≡ drop count old_held
  pub goes_on : 0 < count → sink.has_failed new ≡ false

-- the sink failed, and fewer were handed on
pub record FlushesLess {S : Type 0} (sink : SinkView S) (old new : S) (count : ℕ)
    (old_held new_held : List ℕ) : Type 0 where
  pub fewer : ℕ
  pub less : fewer < count
  pub takes : Appends (sink.taken old) (sink.taken new) (take fewer old_held)
  pub keeps : new_held ≡ drop fewer old_held
  pub fails : sink.has_failed new ≡ true

-- a front of what was held back was handed on, and the rest still is held back
abbrev pub FlushesFront : {S : Type 0} → SinkView S → Lines S → Lines S → Type 0
FlushesFront sink old new =
    (front : List ℕ) × (old.held ≡ front ++ new.held)
    × Appends (sink.taken old.sink) (sink.taken new.sink) front

-- bytes are cut after their last line that is whole
pub record IsCutAtLines (bytes lines rest : List ℕ) : Type 0 where
  pub parts : bytes ≡ lines ++ rest
  pub some : lines ≢ []
  pub whole : IsLines lines
  pub last : IsUnended rest

-- what goes of a full buffer: its whole lines, or all of it where no line ends in it
abbrev pub GoesOf : List ℕ → List ℕ → List ℕ → Type 0
GoesOf full front rest =
    IsCutAtLines full front rest ⊎ (IsUnended full × (front ≡ full) × (rest ≡ []))

-- The sink took what goes of a full buffer, and the rest is still held back.
pub record FlushesWhole {S : Type 0} (sink : SinkView S) (old new : S)
    (full rest : List ℕ) : Type 0 where
  pub front : List ℕ
  pub goes : GoesOf full front rest
  pub takes : Appends (sink.taken old) (sink.taken new) front
  pub goes_on : sink.has_failed new ≡ false

-- the buffer was full, what goes of it was handed on, and then these bytes were held back too
abbrev pub Empties : {S : Type 0} → ℕ → SinkView S → Lines S → Lines S → List ℕ → Type 0
Empties N sink old new bytes =
    (length old.held ≡ N) × ((rest : List ℕ)
    × FlushesWhole sink old.sink new.sink old.held rest × (new.held ≡ rest ++ bytes))

-- bytes were held back, and before, where the buffer was full, its whole lines were handed on
abbrev pub FlushesLines : {S : Type 0} → ℕ → SinkView S → Lines S → Lines S → List ℕ → Type 0
FlushesLines N sink old new bytes =
    ((length old.held < N) × (new.sink ≡ old.sink) × (new.held ≡ old.held ++ bytes))
    ⊎ Empties N sink old new bytes
