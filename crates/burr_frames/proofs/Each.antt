-- What is so of each element of a list.
use Rattle.std.proofs.Common.{◌≡◌, ◌↔◌, ℕ, List, [], ◌∷◌, ◌++◌, Bool, true, arith}
use Rattle.std.specs.Prelude.{All, map, filter}
use Rattle.std.proofs.lemmas.List.Elements.{All-nil, All-cons, All-head, All-tail}
use Rattle.burr_frames.specs.Rules.Looks.{pairs_of}
use Rattle.burr_frames.proofs.Common.Until.{EachIs}

pub each_of_all : {A : Type 0} (P : A → Type 0) (xs : List A) → All P xs → EachIs P xs
each_of_all P [] all = tt
each_of_all P (x ∷ xs) all = (All-head P x xs all, each_of_all P xs (All-tail P x xs all))

pub all_of_each : {A : Type 0} (P : A → Type 0) (xs : List A) → EachIs P xs → All P xs
all_of_each P [] each = All-nil P
all_of_each P (x ∷ xs) each = All-cons P x xs each.0 (all_of_each P xs each.1)

pub each_true : {A : Type 0} (P : A → Type 0) (xs : List A) → ((x : A) → P x) → EachIs P xs
each_true P [] h = tt
each_true P (x ∷ xs) h = (h x, each_true P xs h)

pub each_weaker : {A : Type 0} (P Q : A → Type 0) (xs : List A) → ((x : A) → P x → Q x) → EachIs P xs → EachIs Q xs
each_weaker P Q [] f h = tt
each_weaker P Q (x ∷ xs) f h = (f x h.0, each_weaker P Q xs f h.1)

pub each_append : {A : Type 0} (P : A → Type 0) (xs ys : List A) → EachIs P xs → EachIs P ys → EachIs P (xs ++ ys)
each_append P [] ys h k = k
each_append P (x ∷ xs) ys h k = (h.0, each_append P xs ys h.1 k)

pub each_map : {A B : Type 0} (f : A → B) (P : B → Type 0) (xs : List A) → EachIs (λ x. P (f x)) xs → EachIs P (map f xs)
each_map f P [] h = tt
each_map f P (x ∷ xs) h = (h.0, each_map f P xs h.1)

pub each_unmap : {A B : Type 0} (f : A → B) (P : B → Type 0) (xs : List A) → EachIs P (map f xs) → EachIs (λ x. P (f x)) xs
each_unmap f P [] h = tt
each_unmap f P (x ∷ xs) h = (h.0, each_unmap f P xs h.1)

pub each_same : {A : Type 0} (P Q : A → Type 0) (xs : List A) → EachIs (λ x. P x ↔ Q x) xs → EachIs P xs ↔ EachIs Q xs
each_same P Q [] same = grind arith
each_same P Q (x ∷ xs) same = grind (arith, each_same P Q xs same.1, same)

-- of those that pass a test
pub each_filter : {A : Type 0} (test : A → Bool) (Q : A → Type 0) (xs : List A) → EachIs (λ x. test x ≡ true → Q x) xs
    → EachIs Q (filter test xs)
each_filter test Q [] h = tt
each_filter test Q (x ∷ xs) h = grind (arith, each_filter test Q xs h.1, h)

pub of_filter : {A : Type 0} (test : A → Bool) (Q : A → Type 0) (xs : List A) → EachIs Q (filter test xs)
    → EachIs (λ x. test x ≡ true → Q x) xs
of_filter test Q [] h = tt
of_filter test Q (x ∷ xs) h = grind (arith, of_filter test Q xs, h)

-- of each pair of one of these and one of those
pub each_pair : (P : ℕ → ℕ → Type 0) (ps qs : List ℕ) → EachIs (λ p. EachIs (λ q. P p q) qs) ps
    → EachIs (λ pair. P pair.0 pair.1) (pairs_of ps qs)
each_pair P [] qs h = tt
each_pair P (p ∷ ps) qs h =
    each_append (λ (pair : ℕ × ℕ). P pair.0 pair.1) (map (λ q. (p, q)) qs) (pairs_of ps qs)
    (each_map (λ q. (p, q)) (λ (pair : ℕ × ℕ). P pair.0 pair.1) qs h.0) (each_pair P ps qs h.1)

pub each_of_pairs : (P : ℕ → ℕ → Type 0) (ps qs : List ℕ) → EachIs (λ pair. P pair.0 pair.1) (pairs_of ps qs)
    → EachIs (λ p. EachIs (λ q. P p q) qs) ps
each_of_pairs P [] qs h = tt
each_of_pairs P (p ∷ ps) qs h = let parts = row qs h in (parts.0, each_of_pairs P ps qs parts.1)
  where
    row : (xs : List ℕ) → EachIs (λ (pair : ℕ × ℕ). P pair.0 pair.1) (map (λ q. (p, q)) xs ++ pairs_of ps qs)
        → EachIs (λ q. P p q) xs × EachIs (λ pair. P pair.0 pair.1) (pairs_of ps qs)
    row [] h = (tt, h)
    row (x ∷ xs) h = let rest = row xs h.1 in ((h.0, rest.0), rest.1)
