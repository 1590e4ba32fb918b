-- For crates above: lists that are read element by element.
use Rattle.std.proofs.Common.{◌≡◌, ℕ, ◌+◌, ◌<◌, List, [], ◌∷◌, ◌++◌, length, take, drop, Some, sym, ap, ◌∙◌, subst, arith}
use Rattle.std.specs.Prelude.{slice_get, get_or}
use Rattle.std.proofs.lemmas.Option.{slice_get_within, get_or_from_slice_get, slice_get-get_or}
use Rattle.std.proofs.lemmas.List.{drop_more, take_more, take_all, length_push}

pub drop_here : {A : Type 0} (xs : List A) (i : ℕ) (x : A) → slice_get xs i ≡ Some x → drop i xs ≡ x ∷ drop (i + 1) xs
drop_here xs i x e =
    drop_more xs i x (slice_get_within xs i x e) ∙ ap (λ y. y ∷ drop (i + 1) xs) (get_or_from_slice_get xs i x x e)

pub take_here : {A : Type 0} (xs : List A) (i : ℕ) (x : A) → slice_get xs i ≡ Some x
    → take (i + 1) xs ≡ take i xs ++ x ∷ []
take_here xs i x e =
    take_more xs i x (slice_get_within xs i x e) ∙ ap (λ y. take i xs ++ y ∷ []) (get_or_from_slice_get xs i x x e)

-- the first n elements of a list are read
pub record IsRead {A : Type 0} (whole : List A) (n : ℕ) (xs : List A) : Type 0 where
  pub is : xs ≡ take n whole
  pub many : length xs ≡ n

pub read_on : {A : Type 0} (whole : List A) (n : ℕ) (xs : List A) (x : A) → slice_get whole n ≡ Some x
    → IsRead whole n xs → IsRead whole (n + 1) (xs ++ x ∷ [])
read_on whole n xs x e r = record {
  is = ap (λ ys. ys ++ x ∷ []) r.is ∙ sym (take_here whole n x e);
  many = length_push xs x ∙ ap (λ k. k + 1) r.many;
}

pub all_read : {A : Type 0} (whole : List A) (n : ℕ) (xs : List A) → length whole ≡ n → IsRead whole n xs → xs ≡ whole
all_read whole n xs l r = r.is ∙ take_all n whole (omega (arith, l))

-- what a list within these bounds has at a place
pub some_at : {A : Type 0} (xs : List A) (n : ℕ) → n < length xs → (x : A) × (slice_get xs n ≡ Some x)
some_at [] n less = absurd (omega (arith, less))
some_at (x ∷ xs) n less = (get_or (x ∷ xs) n x, slice_get-get_or (x ∷ xs) n x less)

-- one more is read, and put after those
pub pushed : {A : Type 0} (whole : List A) (n : ℕ) (xs new : List A) (x made : A) → slice_get whole n ≡ Some x
    → made ≡ x → new ≡ xs ++ made ∷ [] → IsRead whole n xs → IsRead whole (n + 1) new
pushed {A} whole n xs new x made at same items r =
    subst (λ (ys : List A). IsRead whole (n + 1) ys) (sym (items ∙ ap (λ y. xs ++ y ∷ []) same)) (read_on whole n xs x at r)
