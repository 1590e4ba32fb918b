-- What a call leaves with its caller.
use Rattle.std.specs.Prelude.{◌≡◌, ◌⊎◌, ◌<◌, ℕ, List, [], ◌++◌, length, take, drop}
use Rattle.burr_runs.specs.declared.input.TheConstants.{LIMIT}
use Rattle.burr_judge.specs.declared.status.Status.{Status}
use Rattle.burr_judge.specs.declared.status.Status.TheVariants.{Failed, Memory}
use Rattle.burr_judge.specs.Statuses.{code_of}
use Rattle.burr_judge.specs.PlanEnds.{Ends}

-- more bytes than the program reads
abbrev pub IsTooLong : List ℕ → Type 0
IsTooLong bytes = LIMIT < length bytes

-- one of two inputs has, or of three
abbrev pub IsEitherTooLong : List ℕ → List ℕ → Type 0
IsEitherTooLong first second = IsTooLong first ⊎ IsTooLong second

abbrev pub IsAnyTooLong : List ℕ → List ℕ → List ℕ → Type 0
IsAnyTooLong first second third = IsTooLong first ⊎ IsEitherTooLong second third

-- What the caller's buffer held before and holds after a call, the size that was set, and the number
-- of its status.
pub record Call : Type 0 where
  pub old : List ℕ
  pub new : List ℕ
  pub size : ℕ
  pub code : ℕ

abbrev pub call : List ℕ → List ℕ → ℕ → ℕ → Call
call old new size code = record { old = old; new = new; size = size; code = code }

-- the buffer holds as much of the bytes as it takes, and else what it held; their number is set
pub record Gives (bytes : List ℕ) (status : Status) (c : Call) : Type 0 where
  pub buffer : c.new ≡ take (length c.old) bytes ++ drop (length bytes) c.old
  pub size : c.size ≡ length bytes
  pub code : c.code ≡ code_of status

-- Where no input is too long and there is memory, what there is to print is given.
abbrev pub Returns : Type 0 → Ends → Call → Type 0
Returns TooMuch AreEnds c =
    (TooMuch × Gives [] Failed c)
    ⊎ ((¬ TooMuch)
    × (Gives [] Memory c
    ⊎ ((bytes : List ℕ) × (status : Status) × AreEnds bytes status × Gives bytes status c)))
