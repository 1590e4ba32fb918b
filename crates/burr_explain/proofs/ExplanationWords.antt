-- The keys that explanations are asked by.
use Rattle.std.proofs.Common.{◌≡◌, ◌≢◌, ℕ, List, [], ◌∷◌, ◌++◌, Bor, Option, Some, None, Contains, MatchOption, All, refl, sym, subst, map, inl, inr, arith}
use Rattle.std.specs.List.{Any}
use Rattle.std.proofs.lemmas.List.Elements.{All-nil, All-cons, All-head, All-tail, All-weaker, All-contains, Contains-get_or, Contains-append_left, Contains-append_right, Contains-append_cases}
use Rattle.std.proofs.lemmas.List.{map-append}
use Rattle.std.proofs.lemmas.Map.Made.{Contains-tail}
use Rattle.burr_explain.specs.declared.explanation.Explanation.{Explanation}
use Rattle.burr_explain.specs.declared.explanation.Subject.{Subject}
use Rattle.burr_explain.specs.declared.explanation.Subject.TheVariants.{Refusal, Trap, Line}
use Rattle.burr_explain.specs.Asked.{IsAskedBy, HasKey, lower_case, words_of, words_in, words_among, keys_among, known_keys}
use Rattle.burr_explain.specs.Known.{known_words, assembly_words, container_words, plan_text_words, code_rule_words, space_rule_words, frame_rule_words, output_words, stepper_words, trap_words}

-- the keys of some explanations
abbrev keys_in : List Explanation → List (List ℕ)
keys_in es = map lower_case (words_in es)

-- the keys of two lists of words are those of the first and then those of the second
of_both : (words more : List (List ℕ)) → map lower_case (words ++ more) ≡ map lower_case words ++ map lower_case more
of_both words more = map-append lower_case words more

-- a key of the first words is a key of both
in_first : (key : List ℕ) (words more : List (List ℕ)) → Contains (map lower_case words) key → Contains (map lower_case (words ++ more)) key
in_first key words more is =
    subst (λ (keys : List (List ℕ)). Contains keys key) (sym (of_both words more)) (Contains-append_left (map lower_case words) (map lower_case more) key is)

-- a key of the other words is a key of both
in_more : (key : List ℕ) (words more : List (List ℕ)) → Contains (map lower_case more) key → Contains (map lower_case (words ++ more)) key
in_more key words more is =
    subst (λ (keys : List (List ℕ)). Contains keys key) (sym (of_both words more)) (Contains-append_right (map lower_case words) (map lower_case more) key is)

-- a key that neither of two lists of words has is not in the two together
in_neither : (key : List ℕ) (words more : List (List ℕ)) → (¬ Contains (map lower_case words) key) → (¬ Contains (map lower_case more) key)
    → ¬ Contains (map lower_case (words ++ more)) key
in_neither key words more not_first not_more is =
    let one : Contains (map lower_case words ++ map lower_case more) key = subst (λ (keys : List (List ℕ)). Contains keys key) (of_both words more) is in
    elim (Contains-append_cases (map lower_case words) (map lower_case more) key one) [ inl first ↦ not_first first | inr other ↦ not_more other ]

-- the first of some keys is one of them
first : (key : List ℕ) (keys : List (List ℕ)) → Contains (key ∷ keys) key
first key keys = Contains-get_or (key ∷ keys) 0 key (omega arith)

-- a subject's key is that of one of its words
key_of_subject : (key : List ℕ) (s : Subject) → HasKey key s → Contains (map lower_case (words_of s)) key
key_of_subject key (Refusal word) is = subst (λ (k : List ℕ). Contains (lower_case word.now ∷ []) k) is (first (lower_case word.now) [])
key_of_subject key (Trap number name) (inl is) =
    subst (λ (k : List ℕ). Contains (lower_case number.now ∷ lower_case name.now ∷ []) k) is (first (lower_case number.now) (lower_case name.now ∷ []))
key_of_subject key (Trap number name) (inr is) =
    subst (λ (k : List ℕ). Contains (lower_case number.now ∷ lower_case name.now ∷ []) k) is
    (Contains-append_right (lower_case number.now ∷ []) (lower_case name.now ∷ []) (lower_case name.now) (first (lower_case name.now) []))
key_of_subject key (Line word) is = subst (λ (k : List ℕ). Contains (lower_case word.now ∷ []) k) is (first (lower_case word.now) [])

-- an empty list contains nothing
nothing_in : (key : List ℕ) → ¬ Contains [] key
nothing_in key (k, inside, is) = absurd (omega (arith, inside))

-- a list of one key does not have another key
none_of_one : (key one : List ℕ) → one ≢ key → ¬ Contains (one ∷ []) key
none_of_one key one other is = nothing_in key (Contains-tail one [] key other is)

-- where the subject has another key, none of its words has this one
no_key_of_subject : (key : List ℕ) (s : Subject) → (¬ HasKey key s) → ¬ Contains (map lower_case (words_of s)) key
no_key_of_subject key (Refusal word) none = none_of_one key (lower_case word.now) none
no_key_of_subject key (Trap number name) none =
    λ is. none_of_one key (lower_case name.now) (λ e. none (inr e)) (Contains-tail (lower_case number.now) (lower_case name.now ∷ []) key (λ e. none (inl e)) is)
no_key_of_subject key (Line word) none = none_of_one key (lower_case word.now) none

-- where the key asks for the explanation it is a key of these words
abbrev Told : List ℕ → List (List ℕ) → Explanation → Type 0
Told key words e = IsAskedBy key e → Contains (map lower_case words) key

-- the same of each explanation of a family
abbrev AllTold : List ℕ → List (List ℕ) → Bor (List Explanation) → Type 0
AllTold key words f = All (Told key words) f.now

told_more : (key : List ℕ) (front words : List (List ℕ)) (es : List Explanation) → All (Told key words) es → All (Told key (front ++ words)) es
told_more key front words es told =
    All-weaker (Told key words) (Told key (front ++ words)) (λ e more asked. in_more key front words (more asked)) es told

told_first : (key : List ℕ) (words rest : List (List ℕ)) (es : List Explanation) → All (Told key words) es → All (Told key (words ++ rest)) es
told_first key words rest es told =
    All-weaker (Told key words) (Told key (words ++ rest)) (λ e more asked. in_first key words rest (more asked)) es told

asked_in : (key : List ℕ) (es : List Explanation) → All (Told key (words_in es)) es
asked_in key [] = All-nil (Told key [])
asked_in key (e ∷ es) =
    All-cons (Told key (words_in (e ∷ es))) e es (λ asked. in_first key (words_of e.subject) (words_in es) (key_of_subject key e.subject asked))
    (told_more key (words_of e.subject) (words_in es) es (asked_in key es))

-- a key that asks for one of the explanations is among theirs
asked_among : (key : List ℕ) (fs : List (Bor (List Explanation))) → All (AllTold key (words_among fs)) fs
asked_among key [] = All-nil (AllTold key [])
asked_among key (f ∷ fs) =
    All-cons (AllTold key (words_among (f ∷ fs))) f fs (told_first key (words_in f.now) (words_among fs) f.now (asked_in key f.now))
    (All-weaker (AllTold key (words_among fs)) (AllTold key (words_among (f ∷ fs))) (λ g told. told_more key (words_in f.now) (words_among fs) g.now told) fs (asked_among key fs))

unasked_in : (key : List ℕ) (es : List Explanation) → All (λ e. ¬ IsAskedBy key e) es → ¬ Contains (keys_in es) key
unasked_in key [] none = nothing_in key
unasked_in key (e ∷ es) none =
    in_neither key (words_of e.subject) (words_in es) (no_key_of_subject key e.subject (All-head (λ e. ¬ IsAskedBy key e) e es none)) (unasked_in key es (All-tail (λ e. ¬ IsAskedBy key e) e es none))

-- the key asks for no explanation of this family
abbrev Unasked : List ℕ → Bor (List Explanation) → Type 0
Unasked key f = All (λ e. ¬ IsAskedBy key e) f.now

unasked_among : (key : List ℕ) (fs : List (Bor (List Explanation))) → All (Unasked key) fs → ¬ Contains (keys_among fs) key
unasked_among key [] none = nothing_in key
unasked_among key (f ∷ fs) none =
    in_neither key (words_in f.now) (words_among fs) (unasked_in key f.now (All-head (Unasked key) f fs none)) (unasked_among key fs (All-tail (Unasked key) f fs none))

-- what was found in the families is told by their keys alone
pub MatchOption-keys : (key : List ℕ) (fs : List (Bor (List Explanation))) (r : Option (Bor Explanation))
    → MatchOption r (All (λ f. All (λ e. ¬ IsAskedBy key e) f.now) fs) (λ e. Any (λ f. Contains f.now e.now) fs × IsAskedBy key e.now)
    → MatchOption r (¬ Contains (keys_among fs) key) (λ e. Contains (keys_among fs) key × IsAskedBy key e.now)
MatchOption-keys key fs None none = unasked_among key fs none
MatchOption-keys key fs (Some e) ((k, f, inside, is, listed), asked) =
    let among = All-contains (AllTold key (words_among fs)) fs f (asked_among key fs) (k, inside, is) in
    (All-contains (Told key (words_among fs)) f.now e.now among listed asked, asked)

-- the words of all families
abbrev Whole : (a c p v w x o s t : List Explanation) → List (List ℕ)
Whole a c p v w x o s t =
    words_in a ++ (words_in c ++ (words_in p ++ (words_in v ++ (words_in w ++ (words_in x ++ (words_in o ++ (words_in s ++ (words_in t ++ []))))))))

-- what was found in families that have these words was found among the known ones
pub MatchOption-known : (key : List ℕ) (a c p v w x o s t : List Explanation) (r : Option (Bor Explanation)) → words_in a ≡ assembly_words → words_in c ≡ container_words
    → words_in p ≡ plan_text_words → words_in v ≡ code_rule_words → words_in w ≡ space_rule_words → words_in x ≡ frame_rule_words → words_in o ≡ output_words
    → words_in s ≡ stepper_words → words_in t ≡ trap_words
    → MatchOption r (¬ Contains (map lower_case (Whole a c p v w x o s t)) key) (λ e. Contains (map lower_case (Whole a c p v w x o s t)) key × IsAskedBy key e.now)
    → MatchOption r (¬ Contains known_keys key) (λ e. Contains known_keys key × IsAskedBy key e.now)
MatchOption-known key a c p v w x o s t r assembly container plan_text code space frame output stepper trap found =
    let whole : Whole a c p v w x o s t ≡ known_words = rw (assembly, container, plan_text, code, space, frame, output, stepper, trap) refl in
    subst (λ (words : List (List ℕ)). MatchOption r (¬ Contains (map lower_case words) key) (λ e. Contains (map lower_case words) key × IsAskedBy key e.now)) whole found
