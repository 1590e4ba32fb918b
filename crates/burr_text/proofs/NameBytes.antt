-- The bytes of names are text.
use Rattle.std.proofs.Common.{◌<◌, ℕ, List, arith, refl, IsTrue, Result, Ok, Err}
use Rattle.std.proofs.lemmas.Bool.Decides.{nat_tests}
use Rattle.std.proofs.lemmas.Str.{IsUtf8-from_ascii}
use Rattle.std.proofs.lemmas.Str.Ascii.{IsAscii-from_all}
use Rattle.std.proofs.lemmas.List.Sums.{AllPass-from_list_all}
use Rattle.std.specs.List.{list_all}
use Rattle.std.specs.Result.{MatchResult, IsOk}
use Rattle.std.specs.Str.{IsAscii, IsUtf8}
use Rattle.burr_text.specs.Names.{IsName, is_name_byte}

-- a byte of a name is ASCII
byte-below : (b : ℕ) → IsTrue (is_name_byte b) → b < 128
byte-below b h = grind (arith, nat_tests, h)

-- so are all of them
all-below : (bytes : List ℕ) → IsTrue (list_all is_name_byte bytes) → IsAscii bytes
all-below bytes h = IsAscii-from_all bytes (λ k d below. byte-below _ (AllPass-from_list_all is_name_byte bytes h k d below))

-- a name is UTF-8
pub IsUtf8-name : (bytes : List ℕ) → IsName bytes → IsUtf8 bytes
IsUtf8-name bytes name = IsUtf8-from_ascii bytes (all-below bytes name.each)

-- a result that fails only where a fact does not hold is no failure where it holds
pub IsOk-unless : {T E : Type 0} (r : Result T E) (P : T → Type 0) (U : Type 0) (Q : E → Type 0) → MatchResult r P (λ e. (¬ U) × Q e) → U → IsOk r
IsOk-unless (Ok x) P U Q cases holds = refl
IsOk-unless (Err e) P U Q cases holds = absurd (cases.0 holds)
