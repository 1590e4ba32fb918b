-- Reading on from a position: what is taken, and where that leads.
use Rattle.std.specs.Prelude.{◌≡◌, ℕ, ◌+◌, ◌<◌, List, ◌++◌, length, slice_index}
use Rattle.burr_container.specs.declared.fault.ContainerFault.{ContainerFault}
use Rattle.burr_container.specs.declared.fault.ContainerFault.TheVariants.{C1}

-- each number is a byte
abbrev pub AreBytes : List ℕ → Type 0
AreBytes xs = (i : ℕ) → slice_index xs i < 256

-- from these bytes at this position some are taken, and the others are next
pub record IsCut (at : ℕ) (bytes taken : List ℕ) (next : ℕ) (rest : List ℕ) : Type 0 where
  pub parts : bytes ≡ taken ++ rest
  pub moved : next ≡ at + length taken

-- there are fewer than `width` bytes, and the fault is C1 at their end
pub record IsShort (width at : ℕ) (bytes : List ℕ) (fault : ContainerFault) : Type 0 where
  pub fewer : length bytes < width
  pub named : fault ≡ C1 (at + length bytes)
