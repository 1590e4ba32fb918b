-- What reading a source to its end gives.
use Rattle.std.specs.Prelude.{◌≡◌, ℕ, ◌≤◌, ◌<◌, List, length, Bool, true, false, Option}
use Rattle.std.specs.Io.KnownBytes.{Consumes, IsAtEnd}
use Rattle.burr_runs.specs.declared.input.BenchFault.{BenchFault}
use Rattle.burr_runs.specs.declared.input.BenchFault.TheVariants.{Read, TooLong, Write, Memory}

-- the source gave these bytes, no more than an input may have; no call failed, and nothing is left
pub record IsWholeInput (old new : Option (List ℕ)) (failed : Bool) (bytes : List ℕ) : Type 0 where
  pub short : length bytes ≤ 16777216
  pub gave : Consumes old new bytes
  pub end : IsAtEnd new
  pub went : failed ≡ false

-- the source gave more bytes than an input may have, and no call failed
abbrev pub IsTooLong : Option (List ℕ) → Option (List ℕ) → Bool → Type 0
IsTooLong old new failed =
    (bytes : List ℕ) × (16777216 < length bytes) × Consumes old new bytes × (failed ≡ false)

-- the source gave at most `most` bytes, and has what is left after them
abbrev pub HasGiven : ℕ → Option (List ℕ) → Option (List ℕ) → Type 0
HasGiven most old new = (bytes : List ℕ) × (length bytes ≤ most) × Consumes old new bytes

-- why a source was not read to its end: a call failed; or it gave too many bytes; or memory was
-- refused, for at most 8,192 bytes more than an input may have
abbrev pub ReadFails : Option (List ℕ) → Option (List ℕ) → Bool → BenchFault → Type 0
ReadFails old new failed Read = (failed ≡ true) × HasGiven 16777216 old new
ReadFails old new failed TooLong = IsTooLong old new failed
ReadFails old new failed Memory = (failed ≡ false) × HasGiven 16785408 old new
ReadFails old new failed Write = ⊥
