-- Rows joined with others, up to one of the others.
use Rattle.std.proofs.Common.{◌≡◌, ℕ, zero, suc, ◌+◌, ◌≤◌, ◌<◌, List, [], ◌∷◌, length, take, drop, refl, ap, sym, ◌∙◌, arith, slice_index_or, slice_set, zero-add}
use Rattle.std.specs.Prelude.{replicate}
use Rattle.std.specs.Simd.Lanes.{zip2, put_chunk}
use Rattle.burr_blocking.specs.Views.Bits.{joined_from, IsNext}

-- eight rows

pub zip2_same : (f g : ℕ → ℕ → ℕ) (k : ℕ) (xs ys : List ℕ) → length xs ≡ length ys → zip2 f xs (zip2 g ys (replicate (length ys) k)) ≡ zip2 (λ x y. f x (g y k)) xs ys
zip2_same f g k [] [] e = refl
zip2_same f g k (x ∷ xs) (y ∷ ys) e = ap (λ r. f x (g y k) ∷ r) (zip2_same f g k xs ys (omega arith))
zip2_same f g k [] (y ∷ ys) e = absurd (omega arith)
zip2_same f g k (x ∷ xs) [] e = absurd (omega arith)

pub zip2_twice : (f g : ℕ → ℕ → ℕ) (xs ys : List ℕ) → zip2 g (zip2 f xs ys) ys ≡ zip2 (λ x y. g (f x y) y) xs ys
zip2_twice f g [] ys = refl
zip2_twice f g (x ∷ xs) [] = refl
zip2_twice f g (x ∷ xs) (y ∷ ys) = ap (λ r. g (f x y) y ∷ r) (zip2_twice f g xs ys)

-- joined in twice

pub joined_twice : (f g : ℕ → ℕ → ℕ) (first : ℕ) (xs ys : List ℕ) → joined_from (λ x y. g (f x y) y) first xs ys ≡ joined_from g first (joined_from f first xs ys) ys
joined_twice f g zero xs [] = refl
joined_twice f g zero [] (y ∷ ys) = refl
joined_twice f g zero (x ∷ xs) (y ∷ ys) = ap (λ r. g (f x y) y ∷ r) (joined_twice f g zero xs ys)
joined_twice f g (suc first) [] ys = refl
joined_twice f g (suc first) (x ∷ xs) ys = ap (λ r. x ∷ r) (joined_twice f g first xs ys)

pub joined_alike : (f g : ℕ → ℕ → ℕ) → ((x y : ℕ) → f x y ≡ g x y) → (first : ℕ) (xs ys : List ℕ) → joined_from f first xs ys ≡ joined_from g first xs ys
joined_alike f g same zero xs [] = refl
joined_alike f g same zero [] (y ∷ ys) = refl
joined_alike f g same zero (x ∷ xs) (y ∷ ys) = ap (λ v. v ∷ joined_from f zero xs ys) (same x y) ∙ ap (λ r. g x y ∷ r) (joined_alike f g same zero xs ys)
joined_alike f g same (suc first) [] ys = refl
joined_alike f g same (suc first) (x ∷ xs) ys = ap (λ r. x ∷ r) (joined_alike f g same first xs ys)

pub length_joined : (f : ℕ → ℕ → ℕ) (first : ℕ) (xs ys : List ℕ) → first + length ys ≤ length xs → length (joined_from f first xs ys) ≡ length xs
length_joined f zero xs [] fits = refl
length_joined f zero [] (y ∷ ys) fits = absurd (omega arith)
length_joined f zero (x ∷ xs) (y ∷ ys) fits = ap (λ n. suc n) (length_joined f zero xs ys (omega arith))
length_joined f (suc first) [] ys fits = refl
length_joined f (suc first) (x ∷ xs) ys fits = ap (λ n. suc n) (length_joined f first xs ys (omega arith))

-- nothing joined in

pub none_joined : (f : ℕ → ℕ → ℕ) (first : ℕ) (xs : List ℕ) → xs ≡ joined_from f first xs []
none_joined f zero xs = refl
none_joined f (suc first) [] = refl
none_joined f (suc first) (x ∷ xs) = ap (λ r. x ∷ r) (none_joined f first xs)

-- a row that is still to be joined

get_zero : (f : ℕ → ℕ → ℕ) (i d : ℕ) (xs ys : List ℕ) → slice_index_or (joined_from f 0 xs (take i ys)) i d ≡ slice_index_or xs i d
get_zero f zero d xs ys = refl
get_zero f (suc i) d xs [] = refl
get_zero f (suc i) d [] (y ∷ ys) = refl
get_zero f (suc i) d (x ∷ xs) (y ∷ ys) = get_zero f i d xs ys

get_joined : (f : ℕ → ℕ → ℕ) (first i p d : ℕ) (xs ys : List ℕ) → p ≡ first + i → slice_index_or (joined_from f first xs (take i ys)) p d ≡ slice_index_or xs p d
get_joined f zero i p d xs ys is = ap (λ q. slice_index_or (joined_from f 0 xs (take i ys)) q d) same ∙ get_zero f i d xs ys ∙ ap (λ q. slice_index_or xs q d) (sym same)
  where
    same : p ≡ i
    same = is ∙ zero-add i
get_joined f (suc first) i p d [] ys is = refl
get_joined f (suc first) i zero d (x ∷ xs) ys is = absurd (omega arith)
get_joined f (suc first) i (suc p) d (x ∷ xs) ys is = get_joined f first i p d xs ys (omega arith)

-- one row more

set_zero : (f : ℕ → ℕ → ℕ) (i v d d' : ℕ) (xs ys : List ℕ) → i < length ys → i < length xs → v ≡ f (slice_index_or xs i d) (slice_index_or ys i d') → slice_set (joined_from f 0 xs (take i ys)) i v ≡ joined_from f 0 xs (take (suc i) ys)
set_zero f zero v d d' (x ∷ xs) (y ∷ ys) lt inside is = ap (λ r. r ∷ xs) is
set_zero f (suc i) v d d' (x ∷ xs) (y ∷ ys) lt inside is = ap (λ r. f x y ∷ r) (set_zero f i v d d' xs ys (omega arith) (omega arith) is)
set_zero f i v d d' [] ys lt inside is = absurd (omega arith)
set_zero f i v d d' (x ∷ xs) [] lt inside is = absurd (omega arith)

set_joined : (f : ℕ → ℕ → ℕ) (first i p v d d' : ℕ) (xs ys : List ℕ) → p ≡ first + i → i < length ys → p < length xs → v ≡ f (slice_index_or xs p d) (slice_index_or ys i d') → slice_set (joined_from f first xs (take i ys)) p v ≡ joined_from f first xs (take (suc i) ys)
set_joined f zero i p v d d' xs ys at_row lt inside is = ap (λ q. slice_set (joined_from f 0 xs (take i ys)) q v) same ∙ set_zero f i v d d' xs ys lt (omega arith) (is ∙ ap (λ q. f (slice_index_or xs q d) (slice_index_or ys i d')) same)
  where
    same : p ≡ i
    same = at_row ∙ zero-add i
set_joined f (suc first) i p v d d' [] ys at_row lt inside is = absurd (omega arith)
set_joined f (suc first) i zero v d d' (x ∷ xs) ys at_row lt inside is = absurd (omega arith)
set_joined f (suc first) i (suc p) v d d' (x ∷ xs) ys at_row lt inside is = ap (λ r. x ∷ r) (set_joined f first i p v d d' xs ys (omega arith) lt (omega arith) is)

pub set_next : (f : ℕ → ℕ → ℕ) (first i d d' : ℕ) (xs ys now : List ℕ) → i < length ys → first + i < length xs → now ≡ joined_from f first xs (take i ys) → slice_set now (first + i) (f (slice_index_or now (first + i) d) (slice_index_or ys i d')) ≡ joined_from f first xs (take (i + 1) ys)
set_next f first i d d' xs ys now lt inside is =
    let more : i + 1 ≡ suc i = omega arith in
    rw (more, is) (set_joined f first i (first + i) (f (slice_index_or (joined_from f first xs (take i ys)) (first + i) d) (slice_index_or ys i d')) d d' xs ys refl lt inside (ap (λ x. f x (slice_index_or ys i d')) (get_joined f first i (first + i) d xs ys refl)))

-- n rows more

put_front : (f : ℕ → ℕ → ℕ) (n : ℕ) (xs ys : List ℕ) → put_chunk 0 xs (zip2 f (take n xs) (take n ys)) ≡ joined_from f 0 xs (take n ys)
put_front f zero [] ys = refl
put_front f zero (x ∷ xs) ys = refl
put_front f (suc n) [] [] = refl
put_front f (suc n) [] (y ∷ ys) = refl
put_front f (suc n) (x ∷ xs) [] = refl
put_front f (suc n) (x ∷ xs) (y ∷ ys) = ap (λ r. f x y ∷ r) (put_front f n xs ys)

put_zero : (f : ℕ → ℕ → ℕ) (n i q : ℕ) (xs ys : List ℕ) → q ≡ i + n → i ≤ length ys → put_chunk i (joined_from f 0 xs (take i ys)) (zip2 f (take n (drop i (joined_from f 0 xs (take i ys)))) (take n (drop i ys))) ≡ joined_from f 0 xs (take q ys)
put_zero f n zero q xs ys is le = put_front f n xs ys ∙ ap (λ m. joined_from f 0 xs (take m ys)) (sym (is ∙ zero-add n))
put_zero f n (suc i) q xs [] is le = absurd (omega arith)
put_zero f n (suc i) zero xs (y ∷ ys) is le = absurd (omega arith)
put_zero f n (suc i) (suc q) [] (y ∷ ys) is le = refl
put_zero f n (suc i) (suc q) (x ∷ xs) (y ∷ ys) is le = ap (λ r. f x y ∷ r) (put_zero f n i q xs ys (omega arith) (omega arith))

put_joined : (f : ℕ → ℕ → ℕ) (first n i p q : ℕ) (xs ys : List ℕ) → p ≡ first + i → q ≡ i + n → i ≤ length ys → put_chunk p (joined_from f first xs (take i ys)) (zip2 f (take n (drop p (joined_from f first xs (take i ys)))) (take n (drop i ys))) ≡ joined_from f first xs (take q ys)
put_joined f zero n i p q xs ys at_row is le = ap (λ m. put_chunk m (joined_from f 0 xs (take i ys)) (zip2 f (take n (drop m (joined_from f 0 xs (take i ys)))) (take n (drop i ys)))) (at_row ∙ zero-add i) ∙ put_zero f n i q xs ys is le
put_joined f (suc first) n i zero q xs ys at_row is le = absurd (omega arith)
put_joined f (suc first) n i (suc p) q [] ys at_row is le = refl
put_joined f (suc first) n i (suc p) q (x ∷ xs) ys at_row is le = ap (λ r. x ∷ r) (put_joined f first n i p q xs ys (omega arith) is le)

pub put_next : (f : ℕ → ℕ → ℕ) (first n i : ℕ) (xs ys now new : List ℕ) → i ≤ length ys → now ≡ joined_from f first xs (take i ys) → new ≡ zip2 f (take n (drop (first + i) now)) (take n (drop i ys)) → put_chunk (first + i) now new ≡ joined_from f first xs (take (i + n) ys)
put_next f first n i xs ys now new le is put = rw (put, is) (put_joined f first n i (first + i) (i + n) xs ys refl refl le)

-- the rest

rest_zero : (f : ℕ → ℕ → ℕ) (i : ℕ) (xs ys : List ℕ) → i ≤ length ys → joined_from f i (joined_from f 0 xs (take i ys)) (drop i ys) ≡ joined_from f 0 xs ys
rest_zero f zero xs ys le = refl
rest_zero f (suc i) xs [] le = absurd (omega arith)
rest_zero f (suc i) [] (y ∷ ys) le = refl
rest_zero f (suc i) (x ∷ xs) (y ∷ ys) le = ap (λ r. f x y ∷ r) (rest_zero f i xs ys (omega arith))

rest_joined : (f : ℕ → ℕ → ℕ) (first i p : ℕ) (xs ys : List ℕ) → p ≡ first + i → i ≤ length ys → joined_from f p (joined_from f first xs (take i ys)) (drop i ys) ≡ joined_from f first xs ys
rest_joined f zero i p xs ys at_row le = ap (λ m. joined_from f m (joined_from f 0 xs (take i ys)) (drop i ys)) (at_row ∙ zero-add i) ∙ rest_zero f i xs ys le
rest_joined f (suc first) i zero xs ys at_row le = absurd (omega arith)
rest_joined f (suc first) i (suc p) [] ys at_row le = refl
rest_joined f (suc first) i (suc p) (x ∷ xs) ys at_row le = ap (λ r. x ∷ r) (rest_joined f first i p xs ys (omega arith) le)

pub rest_next : (f : ℕ → ℕ → ℕ) (first i : ℕ) (xs ys rest now new : List ℕ) → i ≤ length ys → now ≡ joined_from f first xs (take i ys) → rest ≡ drop i ys → new ≡ joined_from f (first + i) now rest → new ≡ joined_from f first xs ys
rest_next f first i xs ys rest now new le is rest_is put = put ∙ rw (is, rest_is) (rest_joined f first i (first + i) xs ys refl le)

-- empty rows

empty_front : (f : ℕ → ℕ → ℕ) (nothing : (x y : ℕ) → y ≡ 0 → x ≡ f x y) (m : ℕ) (xs ys : List ℕ) → ((j : ℕ) → j < m → slice_index_or ys j 0 ≡ 0) → xs ≡ joined_from f 0 xs (take m ys)
empty_front f nothing zero xs ys none = refl
empty_front f nothing (suc m) xs [] none = refl
empty_front f nothing (suc m) [] (y ∷ ys) none = refl
empty_front f nothing (suc m) (x ∷ xs) (y ∷ ys) none = ap (λ r. r ∷ xs) (nothing x y (none 0 (omega arith))) ∙ ap (λ r. f x y ∷ r) (empty_front f nothing m xs ys (λ j lt. none (suc j) (omega arith)))

skip_zero : (f : ℕ → ℕ → ℕ) (nothing : (x y : ℕ) → y ≡ 0 → x ≡ f x y) (i m : ℕ) (xs ys : List ℕ) → i ≤ m → ((j : ℕ) → i ≤ j → j < m → slice_index_or ys j 0 ≡ 0) → joined_from f 0 xs (take i ys) ≡ joined_from f 0 xs (take m ys)
skip_zero f nothing zero m xs ys le none = empty_front f nothing m xs ys (λ j lt. none j (omega arith) lt)
skip_zero f nothing (suc i) zero xs ys le none = absurd (omega arith)
skip_zero f nothing (suc i) (suc m) xs [] le none = refl
skip_zero f nothing (suc i) (suc m) [] (y ∷ ys) le none = refl
skip_zero f nothing (suc i) (suc m) (x ∷ xs) (y ∷ ys) le none = ap (λ r. f x y ∷ r) (skip_zero f nothing i m xs ys (omega arith) (λ j from to. none (suc j) (omega arith) (omega arith)))

skip_joined : (f : ℕ → ℕ → ℕ) (nothing : (x y : ℕ) → y ≡ 0 → x ≡ f x y) (first i m : ℕ) (xs ys : List ℕ) → i ≤ m → ((j : ℕ) → i ≤ j → j < m → slice_index_or ys j 0 ≡ 0) → joined_from f first xs (take i ys) ≡ joined_from f first xs (take m ys)
skip_joined f nothing zero i m xs ys le none = skip_zero f nothing i m xs ys le none
skip_joined f nothing (suc first) i m [] ys le none = refl
skip_joined f nothing (suc first) i m (x ∷ xs) ys le none = ap (λ r. x ∷ r) (skip_joined f nothing first i m xs ys le none)

-- joined up to the next row that is not empty
pub skip_next : (f : ℕ → ℕ → ℕ) (nothing : (x y : ℕ) → y ≡ 0 → x ≡ f x y) (first i m : ℕ) (xs ys now : List ℕ) → now ≡ joined_from f first xs (take i ys) → IsNext ys i m → now ≡ joined_from f first xs (take m ys)
skip_next f nothing first i m xs ys now is next = is ∙ skip_joined f nothing first i m xs ys next.from next.none

-- the next rows from one on
abbrev pub AreNextFrom : List ℕ → List ℕ → ℕ → Type 0
AreNextFrom rows next i = (j : ℕ) → i ≤ j → j ≤ length rows → IsNext rows j (slice_index_or next j 0)
