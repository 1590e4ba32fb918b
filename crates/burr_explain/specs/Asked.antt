-- What a line asks for: its key, and which explanation has that key.
use Rattle.std.specs.Prelude.{◌≡◌, ◌≢◌, ◌≤◌, ◌⊎◌, ℕ, List, [], ◌∷◌, ◌++◌, codes, map, All, Contains}
use Rattle.std.specs.Borrow.{Bor}
use Rattle.std.specs.Char.{to_ascii_lowercase}
use Rattle.burr_text.specs.Words.{IsCutAt}
use Rattle.burr_explain.specs.declared.explanation.Subject.{Subject}
use Rattle.burr_explain.specs.declared.explanation.Subject.TheVariants.{Refusal, Trap, Line}
use Rattle.burr_explain.specs.declared.explanation.Explanation.{Explanation}
use Rattle.burr_explain.specs.Known.{known_words}

-- the bytes with the letters A to Z as small ones
abbrev pub lower_case : List ℕ → List ℕ
lower_case = map to_ascii_lowercase

-- digits alone, and at least one
abbrev pub IsDigits : List ℕ → Type 0
IsDigits word = (word ≢ []) × All (λ b. (48 ≤ b) × (b ≤ 57)) word

-- a word that only says of what kind the next one is
abbrev pub IsLead : List ℕ → Type 0
IsLead word = (word ≡ codes "refused") ⊎ (word ≡ codes "trap")

-- the bytes before the first blank, or all where there is no blank
abbrev pub IsFirstWord : List ℕ → List ℕ → Type 0
IsFirstWord line word =
    ((rest : List ℕ) × IsCutAt 32 line word rest) ⊎ ((¬ Contains line 32) × (word ≡ line))

-- of a line whose first word is followed by a rest: the next word, `move`, or the first word
abbrev pub IsKeyOfCut : List ℕ → List ℕ → List ℕ → Type 0
IsKeyOfCut word rest key =
    (IsLead word × IsFirstWord rest key) ⊎ ((IsDigits word × (key ≡ codes "move"))
    ⊎ ((¬ IsLead word) × (¬ IsDigits word) × (key ≡ word)))

-- the key of a line in lower case, but one of `judge`: that of its two parts, or a line without a
-- blank itself
abbrev pub IsKeyOfLower : List ℕ → List ℕ → Type 0
IsKeyOfLower line key =
    ((word rest : List ℕ) × IsCutAt 32 line word rest × IsKeyOfCut word rest key)
    ⊎ ((¬ Contains line 32) × (key ≡ line))

-- the rest of a line after a first word of digits
abbrev pub IsAfterDigits : List ℕ → List ℕ → Type 0
IsAfterDigits line rest = (word : List ℕ) × IsCutAt 32 line word rest × IsDigits word

-- what `judge` says of a pair: the rest of its line after the number and the status
abbrev pub IsSaid : List ℕ → List ℕ → Type 0
IsSaid line said = (rest : List ℕ) × IsAfterDigits line rest × IsAfterDigits rest said

-- the key of a line in lower case: that of what `judge` says, or its own
abbrev pub IsKeyOfPrinted : List ℕ → List ℕ → Type 0
IsKeyOfPrinted line key =
    ((said : List ℕ) × IsSaid line said × IsKeyOfLower said key)
    ⊎ (((said : List ℕ) → ¬ IsSaid line said) × IsKeyOfLower line key)

-- the key of a line, in lower case
abbrev pub IsKeyOf : List ℕ → List ℕ → Type 0
IsKeyOf line = IsKeyOfPrinted (lower_case line)

-- each line has one key and no other
abbrev pub EachLineHasOneKey : Type 0
EachLineHasOneKey =
    (line : List ℕ)
    → (key : List ℕ) × IsKeyOf line key × ((other : List ℕ) → IsKeyOf line other → other ≡ key)

-- the words that a subject is asked for by, as they are printed
abbrev pub words_of : Subject → List (List ℕ)
words_of (Refusal word) = word.now ∷ []
words_of (Trap number name) = number.now ∷ name.now ∷ []
words_of (Line word) = word.now ∷ []

-- those of some explanations
abbrev pub words_in : List Explanation → List (List ℕ)
words_in [] = []
words_in (e ∷ es) = words_of e.subject ++ words_in es

-- those of some families of explanations
abbrev pub words_among : List (Bor (List Explanation)) → List (List ℕ)
words_among [] = []
words_among (f ∷ fs) = words_in f.now ++ words_among fs

-- the key is the subject's word in lower case, or a trap's number or name
abbrev pub HasKey : List ℕ → Subject → Type 0
HasKey key (Refusal word) = lower_case word.now ≡ key
HasKey key (Trap number name) = (lower_case number.now ≡ key) ⊎ (lower_case name.now ≡ key)
HasKey key (Line word) = lower_case word.now ≡ key

-- an explanation with this key
abbrev pub IsAskedBy : List ℕ → Explanation → Type 0
IsAskedBy key e = HasKey key e.subject

-- the keys of some families of explanations
abbrev pub keys_among : List (Bor (List Explanation)) → List (List ℕ)
keys_among fs = map lower_case (words_among fs)

-- the keys of all words that are explained
abbrev pub known_keys : List (List ℕ)
known_keys = map lower_case known_words
