-- Operands in the code, the bottom first, and in definitions, the top first.
use Rattle.std.proofs.Common.{◌≡◌, ◌<◌, ◌≤◌, ℕ, suc, ◌+◌, ◌-◌, List, ◌∷◌, [], ◌++◌, ◌∙◌, sym, ap, subst, length, map, take, drop, set, get_or, replicate, reverse, arith, Some, None, ℤ}
use lib.Seq.{take-suc, set-append_seam}
use Rattle.std.proofs.lemmas.List.{length-drop, length-reverse, reverse-reverse, length-map, length-take-le, map-append, append_assoc}
use Rattle.burr_code.specs.Stacks.{top_many}
use Rattle.burr_code.specs.Labels.{argument_slots}
use Rattle.burr_code.proofs.Common.Turned.{drop_reverse, reverse_snoc, take_reverse, top_many_of}
use Rattle.burr_state.specs.Views.Effects.{slots_with}
use Rattle.std.specs.Prelude.{Option, Result, Ok, Err, MatchOption, MatchResult}
use Rattle.std.specs.Result.{result_ok}
use Rattle.arrayvec.specs.ArrayVec.{ArrayVec}
use Rattle.arrayvec.specs.declared.errors.CapacityError.{CapacityError}

-- a number in place of the last two
pub replaced : {X : Type 0} (x : X) (xs : List X) → 2 ≤ length xs → reverse (take (length xs - 2) xs ++ x ∷ []) ≡ x ∷ drop 2 (reverse xs)
replaced x xs some = reverse_snoc x (take (length xs - 2) xs) ∙ ap (λ ys. x ∷ ys) (sym (drop_reverse 2 xs))

-- one slot more is filled
pub slot_filled : {X : Type 0} (xs : List X) (i : ℕ) (x : X) → i < length xs → length xs ≤ 8 → set (map Some (take i xs) ++ replicate (8 - i) None) i (Some (get_or xs i x)) ≡ map Some (take (i + 1) xs) ++ replicate (8 - (i + 1)) None
slot_filled xs i x more few =
    let left : 8 - i ≡ suc (8 - (i + 1)) = omega (arith, more, few) in
    let many : length (map Some (take i xs)) ≡ i = length-map (take i xs) Some ∙ length-take-le i xs (omega (arith, more)) in
    let open_slot : map Some (take i xs) ++ replicate (8 - i) None ≡ map Some (take i xs) ++ None ∷ replicate (8 - (i + 1)) None = ap (λ n. map Some (take i xs) ++ replicate n None) left in
    let filled : set (map Some (take i xs) ++ None ∷ replicate (8 - (i + 1)) None) i (Some (get_or xs i x)) ≡ map Some (take i xs) ++ Some (get_or xs i x) ∷ replicate (8 - (i + 1)) None =
    subst (λ n. set (map Some (take i xs) ++ None ∷ replicate (8 - (i + 1)) None) n (Some (get_or xs i x)) ≡ map Some (take i xs) ++ Some (get_or xs i x) ∷ replicate (8 - (i + 1)) None) many
    (set-append_seam (map Some (take i xs)) None (replicate (8 - (i + 1)) None) (Some (get_or xs i x))) in
    let one_more : i + 1 ≡ suc i = omega arith in
    let next : map Some (take (i + 1) xs) ≡ map Some (take i xs) ++ Some (get_or xs i x) ∷ [] =
    ap (λ n. map Some (take n xs)) one_more ∙ ap (λ ys. map Some ys) (take-suc xs i x more) ∙ map-append Some (take i xs) (get_or xs i x ∷ []) in
    ap (λ ys. set ys i (Some (get_or xs i x))) open_slot ∙ filled
    ∙ sym (append_assoc (map Some (take i xs)) (Some (get_or xs i x) ∷ []) (replicate (8 - (i + 1)) None)) ∙ ap (λ ys. ys ++ replicate (8 - (i + 1)) None) (sym next)

-- the last k, put into slots, are the arguments of a call
pub slots_of_arguments : (k : ℕ) (xs : List ℤ) → k ≤ length xs → slots_with (drop (length xs - k) xs) ≡ argument_slots (take k (reverse xs))
slots_of_arguments k xs some =
    let last = drop (length xs - k) xs in
    ap (λ n. map Some last ++ replicate (8 - n) None) (sym (length-reverse last)) ∙ ap (λ ys. map Some ys ++ replicate (8 - length (reverse last)) None) (sym (reverse-reverse last)) ∙ ap argument_slots (sym (take_reverse k xs))

-- the last `count` operands, in the order of the code, are the topmost `count`
pub topmost_given : (count : ℕ) (items operands last : List ℤ) (result : Result (ArrayVec ℤ) (CapacityError (Unit {0})))
    (given : Option (ArrayVec ℤ)) → count ≤ length items → length items ≤ 8 → reverse items ≡ operands
    → last ≡ drop (length items - count) items → given ≡ result_ok result
    → MatchResult result (λ v. (v.items ≡ last) × (length last ≤ 8)) (λ _. 8 < length last)
    → MatchOption given (top_many count operands ≡ None)
    (λ v. (top_many count operands ≡ Some (reverse v.items, drop count operands)) × (length v.items ≡ count))
topmost_given count items operands last (Ok v) given some few same is ok h =
    let taken : v.items ≡ drop (length items - count) items = h.0 ∙ is in
    let topmost = top_many_of count items some ∙ ap (λ xs. Some (xs, drop count (reverse items))) (take_reverse count items ∙ ap reverse (sym taken)) in
    rw ok (
      subst (λ (xs : List ℤ). top_many count xs ≡ Some (reverse v.items, drop count xs)) same topmost,
      ap length taken ∙ length-drop (length items - count) items ∙ omega (arith, some),
    )
topmost_given count items operands last (Err e) given some few same is ok h =
    let many = ap length is ∙ length-drop (length items - count) items in absurd (omega (arith, h, many, few))
