-- The program of a container, element by element.
use Rattle.std.proofs.Common.{◌≡◌, ◌<◌, ℕ, zero, suc, ◌+◌, List, [], ◌∷◌, ◌++◌, ◌∙◌, Some, length, map, take, sym, ap, arith}
use Rattle.std.specs.Prelude.{slice_get, get_or}
use Rattle.std.proofs.lemmas.List.{length-map, take_all}
use Rattle.std.proofs.lemmas.Option.{none-some, same_Some, slice_get-get_or}

-- one element more of a list that is made of another
taken_next : {A B : Type 0} (f : A → B) (xs : List A) (n : ℕ) (x : A) → slice_get xs n ≡ Some x → take (suc n) (map f xs) ≡ take n (map f xs) ++ f x ∷ []
taken_next f [] n x at = absurd (none-some _ at)
taken_next f (y ∷ xs) zero x at = ap (λ z. f z ∷ []) (same_Some _ _ at)
taken_next f (y ∷ xs) (suc n) x at = ap (λ zs. f y ∷ zs) (taken_next f xs n x at)

-- the same, of what has been made so far
pub made_next : {A B : Type 0} (f : A → B) (xs : List A) (n : ℕ) (x : A) (made : List B) (y : B) → slice_get xs n ≡ Some x → made ≡ take n (map f xs) → y ≡ f x → made ++ y ∷ [] ≡ take (n + 1) (map f xs)
made_next f xs n x made y at so_far is =
    let one_more : suc n ≡ n + 1 = omega arith in
    ap (λ zs. zs ++ y ∷ []) so_far ∙ ap (λ z. take n (map f xs) ++ z ∷ []) is ∙ sym (taken_next f xs n x at) ∙ ap (λ m. take m (map f xs)) one_more

-- all have been made
pub made_all : {A B : Type 0} (f : A → B) (xs : List A) (n : ℕ) (made : List B) → n ≡ length xs → made ≡ take n (map f xs) → made ≡ map f xs
made_all f xs n made is so_far = so_far ∙ take_all n (map f xs) (let many = length-map xs f in omega (arith, many, is))

-- what a list within these bounds has at a place
pub some_at : {A : Type 0} (xs : List A) (n : ℕ) → n < length xs → (x : A) × (slice_get xs n ≡ Some x)
some_at [] n less = absurd (omega (arith, less))
some_at (x ∷ xs) n less = (get_or (x ∷ xs) n x, slice_get-get_or (x ∷ xs) n x less)
