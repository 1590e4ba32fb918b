-- The point that follows, as a loop from the last number finds it.
use Rattle.std.proofs.Common.{◌≡◌, ℕ, zero, suc, ◌-◌, ◌≤◌, ◌<◌, true, false, cond, List, [], ◌∷◌, ◌++◌, length, take, drop, Some, None, refl, ap, sym, ◌∙◌, arith, slice_index_or, slice_set}
use Rattle.std.specs.Prelude.{ℤ, pos, ◌+ℤ◌, int_lt}
use Rattle.burr_forms.specs.Rules.Forms.{Point}
use Rattle.burr_forms.specs.Views.Rising.{lows, carried, following}

-- where place i can grow and the numbers after it cannot, it grows
pub grows : (i : ℕ) (ss : List (ℤ × ℤ)) (xs : Point) (s : ℤ × ℤ) (x : ℤ) → length xs ≡ length ss → i < length xs → following (drop (suc i) ss) (drop (suc i) xs) ≡ None → int_lt (slice_index_or xs i x) (slice_index_or ss i s).1 ≡ true → following ss xs ≡ Some (take i xs ++ (slice_index_or xs i x +ℤ pos 1) ∷ lows (drop (suc i) ss))
grows zero (t ∷ ss) (y ∷ xs) s x e h none lt = ap (carried t ss y) none ∙ ap (λ b. cond b (Some ((y +ℤ pos 1) ∷ lows ss)) None) lt
grows (suc i) (t ∷ ss) (y ∷ xs) s x e h none lt = ap (carried t ss y) (grows i ss xs s x (omega arith) (omega arith) none lt)
grows i [] (y ∷ xs) s x e h none lt = absurd (omega arith)
grows i ss [] s x e h none lt = absurd (omega arith)

-- where it cannot, the numbers from it on cannot
pub stops : (i : ℕ) (ss : List (ℤ × ℤ)) (xs : Point) (s : ℤ × ℤ) (x : ℤ) → length xs ≡ length ss → i < length xs → following (drop (suc i) ss) (drop (suc i) xs) ≡ None → int_lt (slice_index_or xs i x) (slice_index_or ss i s).1 ≡ false → following (drop i ss) (drop i xs) ≡ None
stops zero (t ∷ ss) (y ∷ xs) s x e h none lt = ap (carried t ss y) none ∙ ap (λ b. cond b (Some ((y +ℤ pos 1) ∷ lows ss)) None) lt
stops (suc i) (t ∷ ss) (y ∷ xs) s x e h none lt = stops i ss xs s x (omega arith) (omega arith) none lt
stops i [] (y ∷ xs) s x e h none lt = absurd (omega arith)
stops i ss [] s x e h none lt = absurd (omega arith)

-- a place in front of what was put back
pub get_front : (i : ℕ) (xs ys : Point) (d : ℤ) → i < length xs → slice_index_or (take (suc i) xs ++ ys) i d ≡ slice_index_or xs i d
get_front zero (x ∷ xs) ys d h = refl
get_front (suc i) (x ∷ xs) ys d h = get_front i xs ys d (omega arith)
get_front i [] ys d h = absurd (omega arith)

pub set_front : (i : ℕ) (xs ys : Point) (v : ℤ) → i < length xs → slice_set (take (suc i) xs ++ ys) i v ≡ take i xs ++ v ∷ ys
set_front zero (x ∷ xs) ys v h = refl
set_front (suc i) (x ∷ xs) ys v h = ap (λ r. x ∷ r) (set_front i xs ys v (omega arith))
set_front i [] ys v h = absurd (omega arith)

advanced_at : (k : ℕ) (ss : List (ℤ × ℤ)) (old now : Point) (s : ℤ × ℤ) (d : ℤ) → length old ≡ length ss → suc k ≤ length old → following (drop (suc k) ss) (drop (suc k) old) ≡ None → now ≡ take (suc k) old ++ lows (drop (suc k) ss) → int_lt (slice_index_or now k d) (slice_index_or ss k s).1 ≡ true → following ss old ≡ Some (slice_set now k (slice_index_or now k d +ℤ pos 1))
advanced_at k ss old now s d e le none is lt =
    let at_k : slice_index_or now k d ≡ slice_index_or old k d = ap (λ r. slice_index_or r k d) is ∙ get_front k old (lows (drop (suc k) ss)) d (omega arith) in
    let lt' : int_lt (slice_index_or old k d) (slice_index_or ss k s).1 ≡ true = rw (← at_k) lt in
    let put = ap (λ r. slice_set r k (slice_index_or now k d +ℤ pos 1)) is ∙ set_front k old (lows (drop (suc k) ss)) (slice_index_or now k d +ℤ pos 1) (omega arith) in
    grows k ss old s d e (omega arith) none lt' ∙ ap (λ v. Some (take k old ++ (v +ℤ pos 1) ∷ lows (drop (suc k) ss))) (sym at_k) ∙ ap (λ r. Some r) (sym put)

-- one turn of the loop that finds a number that can grow
pub advanced : (i : ℕ) (ss : List (ℤ × ℤ)) (old now : Point) (s : ℤ × ℤ) (d : ℤ) → length old ≡ length ss → 0 < i → i ≤ length old → following (drop i ss) (drop i old) ≡ None → now ≡ take i old ++ lows (drop i ss) → int_lt (slice_index_or now (i - 1) d) (slice_index_or ss (i - 1) s).1 ≡ true → following ss old ≡ Some (slice_set now (i - 1) (slice_index_or now (i - 1) d +ℤ pos 1))
advanced zero ss old now s d e pos_i le none is lt = absurd (omega arith)
advanced (suc k) ss old now s d e pos_i le none is lt =
    let less : suc k - 1 ≡ k = omega arith in
    rw less (advanced_at k ss old now s d e le none is (rw (← less) lt))

lows_drop : (k : ℕ) (ss : List (ℤ × ℤ)) (s : ℤ × ℤ) → k < length ss → lows (drop k ss) ≡ (slice_index_or ss k s).0 ∷ lows (drop (suc k) ss)
lows_drop k [] s h = absurd (omega arith)
lows_drop zero (t ∷ ss) s h = refl
lows_drop (suc k) (t ∷ ss) s h = lows_drop k ss s (omega arith)

-- what the loop has found and put, from place i on
pub record IsTurned (i : ℕ) (ss : List (ℤ × ℤ)) (old now : Point) : Type 0 where
  pub none : following (drop i ss) (drop i old) ≡ None
  pub is : now ≡ take i old ++ lows (drop i ss)

turned_at : (k : ℕ) (ss : List (ℤ × ℤ)) (old now : Point) (s : ℤ × ℤ) (d : ℤ) → length old ≡ length ss → suc k ≤ length old → following (drop (suc k) ss) (drop (suc k) old) ≡ None → now ≡ take (suc k) old ++ lows (drop (suc k) ss) → int_lt (slice_index_or now k d) (slice_index_or ss k s).1 ≡ false → IsTurned k ss old (slice_set now k (slice_index_or ss k s).0)
turned_at k ss old now s d e le none is lt =
    let at_k : slice_index_or now k d ≡ slice_index_or old k d = ap (λ r. slice_index_or r k d) is ∙ get_front k old (lows (drop (suc k) ss)) d (omega arith) in
    let lt' : int_lt (slice_index_or old k d) (slice_index_or ss k s).1 ≡ false = rw (← at_k) lt in
    record {
      none = stops k ss old s d e (omega arith) none lt';
      is = ap (λ r. slice_set r k (slice_index_or ss k s).0) is ∙ set_front k old (lows (drop (suc k) ss)) (slice_index_or ss k s).0 (omega arith) ∙ ap (λ r. take k old ++ r) (sym (lows_drop k ss s (omega arith)));
    }

-- one turn of that loop where a number cannot grow
pub turned : (i : ℕ) (ss : List (ℤ × ℤ)) (old now : Point) (s : ℤ × ℤ) (d low : ℤ) → length old ≡ length ss → 0 < i → i ≤ length old → following (drop i ss) (drop i old) ≡ None → now ≡ take i old ++ lows (drop i ss) → int_lt (slice_index_or now (i - 1) d) (slice_index_or ss (i - 1) s).1 ≡ false → low ≡ (slice_index_or ss (i - 1) s).0 → IsTurned (i - 1) ss old (slice_set now (i - 1) low)
turned zero ss old now s d low e pos_i le none is lt low_is = absurd (omega arith)
turned (suc k) ss old now s d low e pos_i le none is lt low_is =
    let less : suc k - 1 ≡ k = omega arith in
    rw (low_is, less) (turned_at k ss old now s d e le none is (rw (← less) lt))
