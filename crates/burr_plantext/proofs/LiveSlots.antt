-- The live slots, found one after the other.
use Rattle.std.proofs.Common.{◌≡◌, ℕ, zero, suc, ◌+◌, ◌<◌, ◌≤◌, Bool, true, false, Option, Some, List, [], ◌∷◌, ◌++◌, map, take, drop, set, length, sym, ap, ◌∙◌, arith, append_assoc, append-nil, slice_get, is_some, take-append-drop}
use Rattle.std.proofs.lemmas.Option.{same_Some, none-some}
use Rattle.std.proofs.lemmas.List.{take_more_set, drop_all, length-map}
use Rattle.burr_container.specs.Rules.Plans.{Range, live_slots}
use Rattle.burr_plantext.specs.Views.Symbols.{live_numbers, AreSymbols}
use Rattle.burr_plantext.proofs.Steps.{left_at}

pub got_map : {A B : Type 0} (f : A → B) (xs : List A) (n : ℕ) (x : A) → slice_get xs n ≡ Some x
    → slice_get (map f xs) n ≡ Some (f x)
got_map f [] n x e = absurd (none-some x e)
got_map f (y ∷ xs) zero x e = ap (λ z. Some (f z)) (same_Some y x e)
got_map f (y ∷ xs) (suc n) x e = got_map f xs n x e

live_by : (live : List Bool) (n next : ℕ) (is_live : Bool) → next ≡ suc n
    → slice_get live n ≡ Some is_live
    → live_numbers n (drop n live) ≡ live_numbers n (is_live ∷ drop next live)
live_by live n next is_live e here = ap (live_numbers n) (left_at live n next is_live e here)

pub live_turn : (slots : List (Option Range)) (symbols whole : List ℕ) (count n : ℕ)
    (r : Option Range) → count ≤ n → n < length symbols → slice_get slots n ≡ Some r
    → true ≡ is_some r
    → take count symbols ++ live_numbers n (drop n (live_slots slots)) ≡ whole
    → take (count + 1) (set symbols count n)
    ++ live_numbers (n + 1) (drop (n + 1) (live_slots slots)) ≡ whole
live_turn slots symbols whole count n r below inside here live so =
    let there : slice_get (live_slots slots) n ≡ Some true =
    got_map is_some slots n r here ∙ ap (λ (t : Bool). Some t) (sym live) in
    let next : n + 1 ≡ suc n = omega arith in
    ap (λ (t : List ℕ). t ++ live_numbers (n + 1) (drop (n + 1) (live_slots slots)))
    (take_more_set symbols count n (omega (arith, below, inside)))
    ∙ append_assoc (take count symbols) (n ∷ [])
    (live_numbers (n + 1) (drop (n + 1) (live_slots slots)))
    ∙ ap (λ (k : ℕ). take count symbols ++ (n ∷ live_numbers k (drop (n + 1) (live_slots slots))))
    next
    ∙ ap (λ (t : List ℕ). take count symbols ++ t)
    (sym (live_by (live_slots slots) n (n + 1) true next there)) ∙ so

pub dead_turn : (slots : List (Option Range)) (symbols whole : List ℕ) (count n : ℕ)
    (r : Option Range) → slice_get slots n ≡ Some r → false ≡ is_some r
    → take count symbols ++ live_numbers n (drop n (live_slots slots)) ≡ whole
    → take count symbols ++ live_numbers (n + 1) (drop (n + 1) (live_slots slots)) ≡ whole
dead_turn slots symbols whole count n r here dead so =
    let there : slice_get (live_slots slots) n ≡ Some false =
    got_map is_some slots n r here ∙ ap (λ (t : Bool). Some t) (sym dead) in
    let next : n + 1 ≡ suc n = omega arith in
    ap (λ (k : ℕ). take count symbols ++ live_numbers k (drop (n + 1) (live_slots slots))) next
    ∙ ap (λ (t : List ℕ). take count symbols ++ t)
    (sym (live_by (live_slots slots) n (n + 1) false next there)) ∙ so

pub all_live : (slots : List (Option Range)) (symbols : List ℕ) (count n : ℕ)
    → length slots ≡ 8 → 8 ≤ n
    → take count symbols ++ live_numbers n (drop n (live_slots slots))
    ≡ live_numbers 0 (live_slots slots)
    → AreSymbols (live_slots slots) symbols
all_live slots symbols count n eight end so =
    let none : drop n (live_slots slots) ≡ [] =
    drop_all n (live_slots slots) (omega (arith, length-map slots is_some, eight, end)) in (
      drop count symbols,
      sym (take-append-drop count symbols)
          ∙ ap (λ (t : List ℕ). t ++ drop count symbols)
          (sym (append-nil (take count symbols))
          ∙ ap (λ (live : List Bool). take count symbols ++ live_numbers n live) (sym none) ∙ so),
    )
