-- Words that the code has read as numbers of a range.
use Rattle.std.specs.Prelude.{◌≡◌, ℕ, ℤ, List, Option, MatchOption, FitsSigned, true, false}
use Rattle.std.specs.Int.{Width}
use Rattle.burr_container.specs.Rules.Plans.{Range}
use Rattle.burr_plantext.specs.Rules.Written.{natural_in, number_in, is_below, is_within, is_operand, are_ends}
use Rattle.burr_plantext.specs.Rules.Meaning.{result_count}
use Rattle.burr_plantext.specs.Rules.Checks.{is_result_count}

-- the number that the word writes, where it is below the bound
abbrev pub IsBelow : ℕ → List ℕ → Option ℕ → Type 0
IsBelow bound word found =
    MatchOption found (is_below bound word ≡ false) (λ n.
    (is_below bound word ≡ true) × (n ≡ natural_in word))

-- the number that the word writes, where it is one of these
abbrev pub IsWithin : ℕ → ℕ → List ℕ → Option ℕ → Type 0
IsWithin low high word found =
    MatchOption found (is_within low high word ≡ false) (λ n.
    (is_within low high word ≡ true) × (n ≡ natural_in word))

-- the number that the word writes, where an operand may be it
abbrev pub IsOperand : List ℕ → Option ℤ → Type 0
IsOperand word found =
    MatchOption found (is_operand word ≡ false) (λ n.
    (is_operand word ≡ true) × (n ≡ number_in word))

-- the range that the words write, where they are its ends
abbrev pub AreEnds : List ℕ → List ℕ → Option Range → Type 0
AreEnds low high found =
    MatchOption found (are_ends low high ≡ false) (λ r.
    (are_ends low high ≡ true) × (r ≡ (number_in low, number_in high)))

-- the number that the word writes, where it is of this width
abbrev pub IsOfWidth : Width → List ℕ → Option ℤ → Type 0
IsOfWidth width word found =
    MatchOption found (¬ FitsSigned width (number_in word)) (λ n.
    FitsSigned width (number_in word) × (n ≡ number_in word))

-- the number of results that the word writes, if there is one, where it is at most this
abbrev pub IsResultCount : ℕ → Option (List ℕ) → Option ℕ → Type 0
IsResultCount most word found =
    MatchOption found (is_result_count most word ≡ false) (λ n.
    (is_result_count most word ≡ true) × (n ≡ result_count word))
