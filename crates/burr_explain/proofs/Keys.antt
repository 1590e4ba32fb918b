-- The key of a line: where it is cut, in which case, and that there is exactly one.
use Rattle.std.proofs.Common.{◌≡◌, ◌≢◌, ◌⊎◌, ℕ, zero, suc, ◌≤◌, List, [], ◌∷◌, codes, All, Bor, Contains, MatchOption, None, Option, Some, refl, sym, ap, ◌∙◌, subst, inl, inr, arith}
use Rattle.std.specs.Char.{to_ascii_lowercase}
use Rattle.std.proofs.lemmas.List.{map-append}
use Rattle.std.proofs.lemmas.List.Elements.{All-nil, All-cons, All-head, All-tail}
use Rattle.std.proofs.lemmas.Map.Made.{Contains-tail}
use Rattle.burr_text.specs.Words.{IsCutAt}
use Rattle.burr_text.proofs.Common.Cuts.{cut, lacks, contains_cut}
use Rattle.burr_text.proofs.Common.Decisions.{Decided, decided_and, decided_or, decided_not, decide_same, decide_at_most, decide_same_bytes, decide_empty, decide_all}
use Rattle.burr_explain.specs.Asked.{lower_case, IsAfterDigits, IsDigits, IsLead, IsFirstWord, IsKeyOfCut, IsKeyOfLower, IsKeyOfPrinted, IsSaid, EachLineHasOneKey}

-- a digit
abbrev IsDigit : ℕ → Type 0
IsDigit b = (48 ≤ b) × (b ≤ 57)

-- an empty list contains no byte
empty_lacks : ¬ Contains {X = ℕ} [] 32
empty_lacks (k, inside, is) = absurd (omega (arith, inside))

-- only a blank becomes one
blank_kept : (b : ℕ) → to_ascii_lowercase b ≡ 32 → b ≡ 32
blank_kept b e = grind arith

-- a blank in lower case was one before
contains_lower : (bytes : List ℕ) → Contains (lower_case bytes) 32 → Contains bytes 32
contains_lower [] is = is
contains_lower (b ∷ bytes) (zero, inside, is) = (0, omega arith, blank_kept b is)
contains_lower (b ∷ bytes) (suc k, inside, is) =
    let (j, below, same) = contains_lower bytes (k, omega (arith, inside), is) in
    (suc j, omega (arith, below), same)

-- a line is cut where the line in lower case is
pub cut_lower : (line front rest : List ℕ) → IsCutAt 32 line front rest → IsCutAt 32 (lower_case line) (lower_case front) (lower_case rest)
cut_lower line front rest is =
    record { parts = ap lower_case is.parts ∙ map-append to_ascii_lowercase front (32 ∷ rest); first = λ has. is.first (contains_lower front has) }

digit_lower : (b : ℕ) → IsDigit b → IsDigit (to_ascii_lowercase b)
digit_lower b is = grind arith

digit_back : (b : ℕ) → IsDigit (to_ascii_lowercase b) → IsDigit b
digit_back b is = grind arith

all_lower : (word : List ℕ) → All IsDigit word → All IsDigit (lower_case word)
all_lower [] all = All-nil IsDigit
all_lower (b ∷ word) all =
    All-cons IsDigit (to_ascii_lowercase b) (lower_case word) (digit_lower b (All-head IsDigit b word all)) (all_lower word (All-tail IsDigit b word all))

all_back : (word : List ℕ) → All IsDigit (lower_case word) → All IsDigit word
all_back [] all = All-nil IsDigit
all_back (b ∷ word) all =
    All-cons IsDigit b word (digit_back b (All-head IsDigit (to_ascii_lowercase b) (lower_case word) all))
    (all_back word (All-tail IsDigit (to_ascii_lowercase b) (lower_case word) all))

-- digits stay digits in lower case
pub digits_lower : (word : List ℕ) → IsDigits word → IsDigits (lower_case word)
digits_lower [] is = absurd (is.0 refl)
digits_lower (b ∷ word) is = (λ e. cc, all_lower (b ∷ word) is.1)

-- and were digits before
pub digits_back : (word : List ℕ) → IsDigits (lower_case word) → IsDigits word
digits_back [] is = absurd (is.0 refl)
digits_back (b ∷ word) is = (λ e. cc, all_back (b ∷ word) is.1)

-- no word of letters is one of digits
not_both : (word : List ℕ) → IsLead word → IsDigits word → ⊥
not_both word (inl e) digits = let low = subst (All IsDigit) e digits.1 0 0 (omega arith) in omega (arith, low.1)
not_both word (inr e) digits = let low = subst (All IsDigit) e digits.1 0 0 (omega arith) in omega (arith, low.1)

-- a line that is cut has a blank
cut_has_blank : (line front rest : List ℕ) → IsCutAt 32 line front rest → Contains line 32
cut_has_blank line front rest is = subst (λ (l : List ℕ). Contains l 32) (sym is.parts) (contains_cut 32 front rest)

-- a line is cut in one way
same_cut : (line a b r s : List ℕ) → IsCutAt 32 line a r → IsCutAt 32 line b s → (a ≡ b) × (r ≡ s)
same_cut line a b r s one other = cut 32 a b r s (lacks 32 a one.first) (lacks 32 b other.first) (sym one.parts ∙ other.parts)

one_first_word : (line a b : List ℕ) → IsFirstWord line a → IsFirstWord line b → b ≡ a
one_first_word line a b (inl (r, is)) (inl (s, other)) = sym (same_cut line a b r s is other).0
one_first_word line a b (inl (r, is)) (inr (none, same)) = absurd (none (cut_has_blank line a r is))
one_first_word line a b (inr (none, same)) (inl (s, other)) = absurd (none (cut_has_blank line b s other))
one_first_word line a b (inr (none, same)) (inr (also, equal)) = equal ∙ sym same

one_key_of_cut : (word rest a b : List ℕ) → IsKeyOfCut word rest a → IsKeyOfCut word rest b → b ≡ a
one_key_of_cut word rest a b (inl (lead, is)) (inl (also, other)) = one_first_word rest a b is other
one_key_of_cut word rest a b (inl (lead, is)) (inr (inl (digits, other))) = absurd (not_both word lead digits)
one_key_of_cut word rest a b (inl (lead, is)) (inr (inr (not_lead, not_digits, other))) = absurd (not_lead lead)
one_key_of_cut word rest a b (inr (inl (digits, is))) (inl (lead, other)) = absurd (not_both word lead digits)
one_key_of_cut word rest a b (inr (inl (digits, is))) (inr (inl (also, other))) = other ∙ sym is
one_key_of_cut word rest a b (inr (inl (digits, is))) (inr (inr (not_lead, not_digits, other))) = absurd (not_digits digits)
one_key_of_cut word rest a b (inr (inr (not_lead, not_digits, is))) (inl (lead, other)) = absurd (not_lead lead)
one_key_of_cut word rest a b (inr (inr (not_lead, not_digits, is))) (inr (inl (digits, other))) = absurd (not_digits digits)
one_key_of_cut word rest a b (inr (inr (not_lead, not_digits, is))) (inr (inr (nor_lead, nor_digits, other))) = other ∙ sym is

-- the key of what is cut so is that of what is cut the same way
moved : (word rest other more key : List ℕ) → (word ≡ other) × (rest ≡ more) → IsKeyOfCut other more key → IsKeyOfCut word rest key
moved word rest other more key same is =
    subst (λ (w : List ℕ). IsKeyOfCut w rest key) (sym same.0) (subst (λ (r : List ℕ). IsKeyOfCut other r key) (sym same.1) is)

-- a line has no two keys
one_key : (line a b : List ℕ) → IsKeyOfLower line a → IsKeyOfLower line b → b ≡ a
one_key line a b (inl (word, rest, is, key)) (inl (other, more, also, second)) =
    one_key_of_cut word rest a b key (moved word rest other more b (same_cut line word other rest more is also) second)
one_key line a b (inl (word, rest, is, key)) (inr (none, same)) = absurd (none (cut_has_blank line word rest is))
one_key line a b (inr (none, same)) (inl (other, more, also, second)) = absurd (none (cut_has_blank line other more also))
one_key line a b (inr (none, same)) (inr (also, equal)) = equal ∙ sym same

-- the parts of a line that has a blank
abbrev Cut : List ℕ → Type 0
Cut line = (front rest : List ℕ) × IsCutAt 32 line front rest

cut_later : (b : ℕ) (bytes : List ℕ) → b ≢ 32 → Cut bytes → Cut (b ∷ bytes)
cut_later b bytes other (front, rest, is) =
    (b ∷ front, rest, record { parts = ap (λ (t : List ℕ). b ∷ t) is.parts; first = λ has. is.first (Contains-tail b front 32 other has) })

-- a line has a blank or not, and then it is cut at the first one
cut_or_whole : (line : List ℕ) → Cut line ⊎ (¬ Contains line 32)
cut_or_whole [] = inr empty_lacks
cut_or_whole (b ∷ bytes) = at_first (decide_same b 32) (cut_or_whole bytes)
  where
    at_first : Decided (b ≡ 32) → Cut bytes ⊎ (¬ Contains bytes 32) → Cut (b ∷ bytes) ⊎ (¬ Contains (b ∷ bytes) 32)
    at_first (inl e) further = inl ([], bytes, record { parts = ap (λ (x : ℕ). x ∷ bytes) e; first = empty_lacks })
    at_first (inr other) (inl found) = inl (cut_later b bytes other found)
    at_first (inr other) (inr none) = inr (λ has. none (Contains-tail b bytes 32 other has))

some_first_word : (line : List ℕ) → (word : List ℕ) × IsFirstWord line word
some_first_word line = by_cut (cut_or_whole line)
  where
    by_cut : Cut line ⊎ (¬ Contains line 32) → (word : List ℕ) × IsFirstWord line word
    by_cut (inl (front, rest, is)) = (front, inl (rest, is))
    by_cut (inr none) = (line, inr (none, refl))

decide_lead : (word : List ℕ) → Decided (IsLead word)
decide_lead word = decided_or (decide_same_bytes word (codes "refused")) (decide_same_bytes word (codes "trap"))

decide_digits : (word : List ℕ) → Decided (IsDigits word)
decide_digits word =
    decided_and (decided_not (decide_empty word)) (decide_all IsDigit (λ b. decided_and (decide_at_most 48 b) (decide_at_most b 57)) word)

some_key_of_cut : (word rest : List ℕ) → (key : List ℕ) × IsKeyOfCut word rest key
some_key_of_cut word rest = by_word (decide_lead word) (decide_digits word)
  where
    by_word : Decided (IsLead word) → Decided (IsDigits word) → (key : List ℕ) × IsKeyOfCut word rest key
    by_word (inl lead) digits = let (key, is) = some_first_word rest in (key, inl (lead, is))
    by_word (inr not_lead) (inl digits) = (codes "move", inr (inl (digits, refl)))
    by_word (inr not_lead) (inr not_digits) = (word, inr (inr (not_lead, not_digits, refl)))

-- a line has a key
some_key : (line : List ℕ) → (key : List ℕ) × IsKeyOfLower line key
some_key line = by_cut (cut_or_whole line)
  where
    by_cut : Cut line ⊎ (¬ Contains line 32) → (key : List ℕ) × IsKeyOfLower line key
    by_cut (inl (word, rest, is)) = let (key, of_cut) = some_key_of_cut word rest in (key, inl (word, rest, is, of_cut))
    by_cut (inr none) = (line, inr (none, refl))

-- Lines of `judge`

one_after : (line a b : List ℕ) → IsAfterDigits line a → IsAfterDigits line b → a ≡ b
one_after line a b (word, is, digits) (other, also, these) = (same_cut line word other a b is also).1

-- a line says one thing
one_said : (line a b : List ℕ) → IsSaid line a → IsSaid line b → a ≡ b
one_said line a b (rest, is, more) (other, also, others) =
    one_after rest a b more (subst (λ (r : List ℕ). IsAfterDigits r b) (one_after line other rest also is) others)

pub one_printed_key : (line a b : List ℕ) → IsKeyOfPrinted line a → IsKeyOfPrinted line b → b ≡ a
one_printed_key line a b (inl (said, is, key)) (inl (other, also, second)) =
    one_key said a b key (subst (λ (s : List ℕ). IsKeyOfLower s b) (one_said line other said also is) second)
one_printed_key line a b (inl (said, is, key)) (inr (none, second)) = absurd (none said is)
one_printed_key line a b (inr (none, key)) (inl (other, also, second)) = absurd (none other also)
one_printed_key line a b (inr (none, key)) (inr (also, second)) = one_key line a b key second

-- the rest after digits is that of the line in lower case
pub after_lower : (line word rest : List ℕ) → IsCutAt 32 line word rest → IsDigits word → IsAfterDigits (lower_case line) (lower_case rest)
after_lower line word rest is digits = (lower_case word, cut_lower line word rest is, digits_lower word digits)

pub no_rest : (line : List ℕ) → ¬ Contains line 32 → (rest : List ℕ) → ¬ IsAfterDigits (lower_case line) rest
no_rest line none rest (word, is, digits) = none (contains_lower line (cut_has_blank (lower_case line) word rest is))

pub not_after : (line word rest : List ℕ) → IsCutAt 32 line word rest → ¬ IsDigits word → (other : List ℕ) → ¬ IsAfterDigits (lower_case line) other
not_after line word rest is none other (first, also, digits) =
    none (digits_back word (subst IsDigits (same_cut (lower_case line) first (lower_case word) other (lower_case rest) also (cut_lower line word rest is)).0 digits))

-- what follows digits after digits is said
pub said_after : (line rest : List ℕ) (r : Option (Bor (List ℕ))) → IsAfterDigits line rest
    → MatchOption r ((said : List ℕ) → ¬ IsAfterDigits rest said) (λ said. IsAfterDigits rest (lower_case said.now))
    → MatchOption r ((said : List ℕ) → ¬ IsSaid line said) (λ said. IsSaid line (lower_case said.now))
said_after line rest None is none =
    λ said (other, also, more). none said (subst (λ (r : List ℕ). IsAfterDigits r said) (one_after line other rest also is) more)
said_after line rest (Some said) is more = (rest, is, more)

-- the rest of a line after digits, or that it has no digits in front
abbrev Rest : List ℕ → Type 0
Rest line = ((rest : List ℕ) × IsAfterDigits line rest) ⊎ ((rest : List ℕ) → ¬ IsAfterDigits line rest)

decide_after : (line : List ℕ) → Rest line
decide_after line = by_cut (cut_or_whole line)
  where
    by_word : (word rest : List ℕ) → IsCutAt 32 line word rest → Decided (IsDigits word) → Rest line
    by_word word rest is (inl digits) = inl (rest, (word, is, digits))
    by_word word rest is (inr none) = inr (λ other (first, also, digits). none (subst IsDigits (same_cut line first word other rest also is).0 digits))

    by_cut : Cut line ⊎ (¬ Contains line 32) → Rest line
    by_cut (inl (word, rest, is)) = by_word word rest is (decide_digits word)
    by_cut (inr none) = inr (λ other (first, also, digits). none (cut_has_blank line first other also))

some_printed_key : (line : List ℕ) → (key : List ℕ) × IsKeyOfPrinted line key
some_printed_key line = by_rest (decide_after line)
  where
    by_itself : ((said : List ℕ) → ¬ IsSaid line said) → (key : List ℕ) × IsKeyOfPrinted line key
    by_itself none = let (key, is) = some_key line in (key, inr (none, is))

    by_more : (rest : List ℕ) → IsAfterDigits line rest → Rest rest → (key : List ℕ) × IsKeyOfPrinted line key
    by_more rest is (inl (said, more)) = let (key, of) = some_key said in (key, inl (said, (rest, is, more), of))
    by_more rest is (inr none) =
        by_itself (λ said (other, also, more). none said (subst (λ (r : List ℕ). IsAfterDigits r said) (one_after line other rest also is) more))

    by_rest : Rest line → (key : List ℕ) × IsKeyOfPrinted line key
    by_rest (inl (rest, is)) = by_more rest is (decide_after rest)
    by_rest (inr none) = by_itself (λ said (rest, is, more). none rest is)

-- a line has exactly one key
pub each_line_has_one_key : EachLineHasOneKey
each_line_has_one_key line =
    let (key, is) = some_printed_key (lower_case line) in
    (key, is, λ other also. one_printed_key (lower_case line) key other is also)
