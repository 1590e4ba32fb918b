-- Names with their numbers, as the code keeps them.
use Rattle.std.specs.Prelude.{◌≡◌, ℕ, List, Option, Some, None, Bool, map, nat_lt, if◌then◌else◌}
use Rattle.std.specs.Borrow.{Bor}
use Rattle.std.specs.HashMap.{HashMap, get_by}
use Rattle.std.specs.Str.{bytes_eq}
use Rattle.burr_plantext.specs.Rules.Checks.{is_known}
use Rattle.burr_plantext.specs.Rules.Meaning.{number_of}

-- the names themselves
abbrev pub texts : List (Bor (List ℕ)) → List (List ℕ)
texts names = map (λ (name : Bor (List ℕ)). name.now) names

-- the number of a name, if it is one of the names
abbrev pub number_if_known : List (List ℕ) → List ℕ → Option ℕ
number_if_known names name = if is_known names name then Some (number_of names name) else None

-- the map has of each name its number, and nothing else
abbrev pub AreNumbered : {S : Type 0} → List (List ℕ) → HashMap (Bor (List ℕ)) ℕ S → Type 0
AreNumbered names numbers =
    (name : List ℕ) → get_by (λ k. bytes_eq name k.now) numbers ≡ number_if_known names name

-- the number of a name fits a byte
abbrev pub has_byte : List (List ℕ) → List ℕ → Bool
has_byte names name = nat_lt (number_of names name) 256
