-- Sets of pieces that the code has read.
use Rattle.std.specs.Prelude.{◌≡◌, ℕ, List, Bool, Option, MatchOption, ◌&&◌, not, nat_le, true, false}
use Rattle.burr_plantext.specs.Rules.Written.{set_in, set_numbers, are_members, is_below, natural_in}
use Rattle.burr_plantext.specs.Rules.Checks.{is_empty}

-- the set that the word writes, where the test holds
abbrev pub IsSetIf : Bool → List ℕ → Option ℕ → Type 0
IsSetIf test word found =
    MatchOption found (test ≡ false) (λ set. (test ≡ true) × (set ≡ set_in word))

-- the set that the word writes, where its numbers rise and are below the bound
abbrev pub IsSetBelow : ℕ → List ℕ → Option ℕ → Type 0
IsSetBelow bound word found = IsSetIf (are_members 0 bound (set_numbers word)) word found

-- a set of some of 32 pieces has one at least
abbrev pub is_gripped : List ℕ → Bool
is_gripped word = not (is_empty (set_numbers word)) && are_members 0 32 (set_numbers word)

-- the set that the word writes, where a grip may be it
abbrev pub IsGripped : List ℕ → Option ℕ → Type 0
IsGripped word found = IsSetIf (is_gripped word) word found

-- the word writes a number that is at least this, and below the bound
abbrev pub is_member : ℕ → ℕ → List ℕ → Bool
is_member least bound word = is_below bound word && nat_le least (natural_in word)

-- the number that the word writes, where it is one of these
abbrev pub IsMember : ℕ → ℕ → List ℕ → Option ℕ → Type 0
IsMember least bound word found =
    MatchOption found (is_member least bound word ≡ false) (λ n.
    (is_member least bound word ≡ true) × (n ≡ natural_in word))
