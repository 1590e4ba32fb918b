-- A list that is put place by place, from what each element of another list gives.
use Rattle.std.proofs.Common.{◌≡◌, ℕ, zero, suc, ◌+◌, ◌≤◌, ◌<◌, List, [], ◌∷◌, ◌++◌, length, take, drop, refl, ap, ◌∙◌, arith, slice_index_or, slice_set}
use Rattle.std.specs.Prelude.{map}
use Rattle.std.proofs.lemmas.List.{take_all, drop_all, append-nil}

module _ {X Y : Type 0} (h : X → Y) where
  -- the first i are put
  abbrev pub placed : ℕ → List X → List Y → List Y
  placed i xs old = map h (take i xs) ++ drop i old

  put_at : (i : ℕ) (xs : List X) (old : List Y) (d : X) → length old ≡ length xs → i < length xs
      → slice_set (placed i xs old) i (h (slice_index_or xs i d)) ≡ placed (suc i) xs old
  put_at i [] old d e l = absurd (omega arith)
  put_at i (x ∷ xs) [] d e l = absurd (omega arith)
  put_at zero (x ∷ xs) (y ∷ old) d e l = refl
  put_at (suc i) (x ∷ xs) (y ∷ old) d e l = ap (λ r. h x ∷ r) (put_at i xs old d (omega arith) (omega arith))

  pub put_next : (i : ℕ) (xs : List X) (old now : List Y) (d : X) (v : Y) → length old ≡ length xs → i < length xs
      → v ≡ h (slice_index_or xs i d) → now ≡ placed i xs old → slice_set now i v ≡ placed (i + 1) xs old
  put_next i xs old now d v e l v_is is =
      let more : i + 1 ≡ suc i = omega arith in
      rw (more, is, v_is) (put_at i xs old d e l)

  pub all_placed : (i : ℕ) (xs : List X) (old now : List Y) → length old ≡ length xs → length xs ≤ i
      → now ≡ placed i xs old → now ≡ map h xs
  all_placed i xs old now e l is =
      is ∙ ap (λ r. map h r ++ drop i old) (take_all i xs l) ∙ ap (λ r. map h xs ++ r) (drop_all i old (omega arith)) ∙ append-nil (map h xs)
