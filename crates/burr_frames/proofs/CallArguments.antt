-- The arguments of a call: the topmost operands, and lists of eight that are filled from the front.
use Rattle.std.proofs.Common.{◌≡◌, ◌<◌, ◌≤◌, ℕ, suc, ◌+◌, ◌-◌, List, ◌∷◌, [], ◌++◌, ◌∙◌, sym, ap, length, map, take, drop, set, replicate, arith, Some, None, Option, slice_index_or}
use Rattle.std.specs.Prelude.{reverse}
use Rattle.std.proofs.lemmas.List.{length-drop, length-reverse, reverse-reverse, length-map, length-take-le, take_all, take_more, append_assoc, set-append_right, get_or-map}
use Rattle.burr_code.specs.Labels.{argument_slots}

-- how many operands are left where the topmost `count` are gone
pub left_many : {X : Type 0} (count : ℕ) (items operands : List X) → reverse items ≡ operands
    → length (drop count operands) ≡ length items - count
left_many count items operands same =
    length-drop count operands ∙ ap (λ xs. length xs - count) (sym same) ∙ ap (λ n. n - count) (length-reverse items)

-- they and the results are not too many where the code says so
pub still_room : {X : Type 0} (count : ℕ) (items operands : List X) (have given results : ℕ) → reverse items ≡ operands
    → have ≡ length items → given ≡ results → have - count + given ≤ 8 → length (drop count operands) + results ≤ 8
still_room count items operands have given results same all many few =
    let left = left_many count items operands same in omega (arith, left, all, many, few)

-- Lists of eight

-- the first k, and after them one element as often as there is room
abbrev pub filled : {X : Type 0} → X → ℕ → List X → List X
filled rest k xs = take k xs ++ replicate (8 - k) rest

-- one more is put in its place
pub one_put : {X : Type 0} (rest x : X) (k : ℕ) (xs now : List X) → k < length xs → length xs ≤ 8
    → x ≡ slice_index_or xs k x → now ≡ filled rest k xs → set now k x ≡ filled rest (k + 1) xs
one_put rest x k xs now more few is so_far =
    let after = replicate (8 - (k + 1)) rest in
    let left : 8 - k ≡ suc (8 - (k + 1)) = omega (arith, more, few) in
    let many : length (take k xs) ≡ k = length-take-le k xs (omega (arith, more)) in
    ap (λ ys. set ys k x) (so_far ∙ ap (λ n. take k xs ++ replicate n rest) left)
    ∙ set-append_right (take k xs) (rest ∷ after) k k x many (omega arith)
    ∙ ap (λ n. take k xs ++ set (rest ∷ after) n x) (same_less k)
    ∙ sym (append_assoc (take k xs) (x ∷ []) after)
    ∙ ap (λ ys. ys ++ after) (ap (λ y. take k xs ++ y ∷ []) is ∙ sym (take_more xs k x more))
  where
    same_less : (n : ℕ) → n - n ≡ 0
    same_less n = omega arith

-- all are put
pub all_put : {X : Type 0} (rest : X) (k : ℕ) (xs now : List X) → length xs ≤ k → k ≤ length xs
    → now ≡ filled rest k xs → now ≡ xs ++ replicate (8 - length xs) rest
all_put rest k xs now l m is =
    let all : k ≡ length xs = omega (arith, l, m) in
    is ∙ ap (λ n. filled rest n xs) all
    ∙ ap (λ ys. ys ++ replicate (8 - length xs) rest) (take_all (length xs) xs (omega arith))

-- an argument as a slot
pub as_slot : {X : Type 0} (x : X) (k : ℕ) (xs : List X) → k < length xs → x ≡ slice_index_or xs k x
    → Some x ≡ slice_index_or (map Some xs) k (Some x)
as_slot x k xs more is = ap Some is ∙ sym (get_or-map Some xs k x (Some x) more)

-- the slots of a callee, by its arguments
pub slots_filled : {X : Type 0} (xs : List X) (now : List (Option X))
    → now ≡ map Some xs ++ replicate (8 - length (map Some xs)) None → now ≡ argument_slots (reverse xs)
slots_filled xs now is =
    is ∙ ap (λ n. map Some xs ++ replicate (8 - n) None) (length-map xs Some ∙ sym (length-reverse xs))
    ∙ ap (λ ys. map Some ys ++ replicate (8 - length (reverse xs)) None) (sym (reverse-reverse xs))
