-- The labels of a `pick`, as the code counts them.
use Rattle.std.specs.Prelude.{◌≡◌, ◌≤◌, ℕ, List, length, Option, MatchOption, IsTrue, Bool, ◌&&◌, nat_le, false}
use Rattle.std.specs.List.{list_all}
use Rattle.burr_container.specs.Rules.Fitting.{is_name_text}

-- at most 8 names
abbrev pub are_few_names : List (List ℕ) → Bool
are_few_names words = nat_le (length words) 8 && list_all is_name_text words

-- how many words there are, where they are at most 8 names
abbrev pub AreCounted : List (List ℕ) → Option ℕ → Type 0
AreCounted words found =
    MatchOption found (are_few_names words ≡ false) (λ count.
    IsTrue (list_all is_name_text words) × (length words ≡ count) × (count ≤ 8))
