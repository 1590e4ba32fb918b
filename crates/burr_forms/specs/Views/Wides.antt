-- Numbers of forms under way.
use Rattle.std.specs.Prelude.{◌^◌, ◌≤◌, ℕ, List, ℤ, All}
use Rattle.std.specs.Int.RustNames.{unsigned_abs}
use Rattle.burr_forms.specs.Rules.Forms.{Form}

-- the number is at most this, either way
abbrev pub IsWithin : ℕ → ℤ → Type 0
IsWithin most n = unsigned_abs n ≤ most

abbrev pub AllWithin : ℕ → List ℤ → Type 0
AllWithin most numbers = All (IsWithin most) numbers

abbrev pub IsFormWithin : ℕ → Form → Type 0
IsFormWithin most f = (unsigned_abs f.constant ≤ most) × AllWithin most f.coefs

-- there is room to add
abbrev pub IsWideForm : Form → Type 0
IsWideForm f = IsFormWithin (2 ^ 100) f
