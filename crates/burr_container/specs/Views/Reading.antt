-- Reading a part of a container.
use Rattle.std.specs.Prelude.{ℕ, List, Result, MatchResult, IsTrue}
use Rattle.burr_container.specs.declared.fault.ContainerFault.{ContainerFault}
use Rattle.burr_container.specs.declared.reading.cursor.Cursor.{Cursor}
use Rattle.burr_container.specs.Views.Cuts.{IsCut, IsShort}
use Rattle.burr_container.specs.Rules.Faults.{Part}

-- the next `width` bytes spell the result, or there are too few
abbrev pub Takes : {A : Type 0} → ℕ → (A → List ℕ) → (cursor next : Cursor)
    → Result A ContainerFault → Type 0
Takes width spelled cursor next result =
    MatchResult result
    (λ ok. IsCut cursor.at cursor.rest.now (spelled ok) next.at next.rest.now)
    (λ fault. IsShort width cursor.at cursor.rest.now fault)

-- a value of the part stands at the cursor, and after it the next one
pub record IsAt {A : Type 0} (part : Part A) (cursor : Cursor) (value : A) (next : Cursor) : Type 0
  where
    pub fits : IsTrue (part.fits value)
    pub cut : IsCut cursor.at cursor.rest.now (part.bytes value) next.at next.rest.now

-- a value of the part stands at the cursor, and after it the next one; or how the part fails
abbrev pub GoesOver : {A B : Type 0} → Part A → (cursor next : Cursor) → Result B ContainerFault
    → Type 0
GoesOver {A = A} part cursor next result =
    MatchResult result (λ done. (a : A) × IsAt part cursor a next)
    (λ fault. part.Fails cursor.at cursor.rest.now fault)

-- the part is read: what is kept is of the value that stands at the cursor
abbrev pub ReadsAs : {A V : Type 0} → (V → A → Type 0) → Part A → (cursor next : Cursor)
    → Result V ContainerFault → Type 0
ReadsAs {A = A} Is part cursor next result =
    MatchResult result (λ kept. (a : A) × Is kept a × IsAt part cursor a next)
    (λ fault. part.Fails cursor.at cursor.rest.now fault)

-- the part is gone over: what is kept elsewhere is of the value that stands at the cursor
abbrev pub ReadsInto : {A V B : Type 0} → (V → A → Type 0) → V → Part A → (cursor next : Cursor)
    → Result B ContainerFault → Type 0
ReadsInto {A = A} Is kept part cursor next result =
    MatchResult result (λ done. (a : A) × Is kept a × IsAt part cursor a next)
    (λ fault. part.Fails cursor.at cursor.rest.now fault)

-- the part is read: the value that stands at the cursor, and the next cursor after it; or how it
-- fails
abbrev pub Reads : {A : Type 0} → Part A → (cursor next : Cursor) → Result A ContainerFault → Type 0
Reads part cursor next result =
    MatchResult result (λ a. IsAt part cursor a next)
    (λ fault. part.Fails cursor.at cursor.rest.now fault)
