-- Why a command stops before it prints anything, by the line that reports it.
use Rattle.std.specs.Prelude.{◌≡◌, ◌⊎◌, ℕ, List, ⊤, Contains, codes}
use Rattle.burr_judge.specs.Faults.{cannot_read, cannot_write, out_is_input}

-- which lines a fault may be reported by
abbrev pub Lines : Type 1
Lines = List ℕ → Type 0

-- out of memory
abbrev pub NoMemory : Lines
NoMemory line = line ≡ codes "no memory\n"

-- any text, as that of a refusal
abbrev pub AnyText : List ℕ → Type 0
AnyText text = ⊤

-- a file can't be read, or written; or out of memory
pub record Unread (name line : List ℕ) : Type 0 where
  pub because : (line ≡ cannot_read name) ⊎ NoMemory line

pub record Unwritten (name line : List ℕ) : Type 0 where
  pub because : (line ≡ cannot_write name) ⊎ NoMemory line

-- OUT is the input of one of these words of the usage
abbrev pub IsInput : List (List ℕ) → List ℕ → Lines
IsInput words out line = (word : List ℕ) × Contains words word × (line ≡ out_is_input word out)

-- one of the files of these names can't be read, or out of memory; standard input has the name `-`
pub record CannotRead (names : List (List ℕ)) (line : List ℕ) : Type 0 where
  pub because : ((name : List ℕ) × Contains names name × (line ≡ cannot_read name))
      ⊎ NoMemory line

-- the same; or OUT can't be written, or is one of these inputs
pub record CannotRewrite (names words : List (List ℕ)) (out line : List ℕ) : Type 0 where
  pub because : CannotRead names line ⊎ (line ≡ cannot_write out) ⊎ IsInput words out line
