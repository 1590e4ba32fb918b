-- Reading slots, one after the other.
use Rattle.std.proofs.Common.{◌≡◌, ℕ, zero, suc, ◌+◌, ◌-◌, ◌/◌, ◌%◌, ◌<◌, ◌==◌, Bool, true, false, Option, Some, None, List, [], ◌∷◌, ◌++◌, length, take, drop, replicate, inl, refl, sym, ap, ◌∙◌, subst, arith}
use Rattle.std.proofs.Math.ListN.{set}
use Rattle.burr_container.specs.declared.fault.ContainerFault.{ContainerFault}
use Rattle.burr_container.specs.declared.fault.ContainerFault.TheVariants.{C4}
use Rattle.burr_container.specs.declared.reading.cursor.Cursor.{Cursor}
use Rattle.burr_container.specs.Rules.Plans.{Range}
use Rattle.burr_container.specs.Rules.Faults.{number, range, bits, RangesFail, slots as slots_part}
use Rattle.burr_container.specs.Views.Reading.{IsAt}
use Rattle.burr_container.proofs.Common.Slots.{OfRanges}
use Rattle.burr_container.proofs.Common.Judging.Slots.{live_back, dead_back, slots_back}
use Rattle.burr_container.proofs.Chains.{IsAfter, small_of, after_part, stands_at, then_fails, then_stands}

-- Lists

module _ {A : Type 0} where
  drop_next : (v : ℕ) (xs : List A) (x : A) (ys : List A) → drop v xs ≡ x ∷ ys
      → drop (suc v) xs ≡ ys
  drop_next zero xs x ys e = ap (drop 1) e
  drop_next (suc v) [] x ys e = absurd (cc)
  drop_next (suc v) (a ∷ xs) x ys e = drop_next v xs x ys e

  join_next : (v : ℕ) (xs : List A) (x : A) (ys more : List A) → drop v xs ≡ x ∷ ys
      → take (suc v) xs ++ more ≡ take v xs ++ (x ∷ more)
  join_next zero xs x ys more e = ap (λ (l : List A). take 1 l ++ more) e
  join_next (suc v) [] x ys more e = absurd (cc)
  join_next (suc v) (a ∷ xs) x ys more e =
      ap (λ (l : List A). a ∷ l) (join_next v xs x ys more e)

  drop_set : (v : ℕ) (xs : List A) (x y : A) (ys : List A) → drop v xs ≡ y ∷ ys
      → drop v (set xs v x) ≡ x ∷ ys
  drop_set zero [] x y ys e = absurd (cc)
  drop_set zero (a ∷ xs) x y ys e = ap (λ (l : List A). x ∷ drop 1 l) e
  drop_set (suc v) [] x y ys e = absurd (cc)
  drop_set (suc v) (a ∷ xs) x y ys e = drop_set v xs x y ys e

  take_set : (v : ℕ) (xs : List A) (x : A) → take v (set xs v x) ≡ take v xs
  take_set zero xs x = refl
  take_set (suc v) [] x = refl
  take_set (suc v) (a ∷ xs) x = ap (λ (l : List A). a ∷ l) (take_set v xs x)

length_set : {A : Type 0} (v : ℕ) (xs : List A) (x : A) → length (set xs v x) ≡ length xs
length_set zero [] x = refl
length_set zero (a ∷ xs) x = refl
length_set (suc v) [] x = refl
length_set (suc v) (a ∷ xs) x = ap suc (length_set v xs x)

take_all : {A : Type 0} (xs : List A) → take (length xs) xs ++ [] ≡ xs
take_all [] = refl
take_all (x ∷ xs) = ap (λ (l : List _). x ∷ l) (take_all xs)

-- The walk

-- the slots below v are read, and the bits of the others are left
pub record IsSlotWalk (begin : Cursor) (mask v left : ℕ) (slots : List (Option Range))
    (cursor : Cursor) : Type 0 where
  pub fails : (fault : ContainerFault)
      → RangesFail (bits (8 - v) left) cursor.at cursor.rest.now fault
      → RangesFail (bits 8 mask) begin.at begin.rest.now fault
  pub stands : (more : List (Option Range)) (r : List ℕ)
      → OfRanges (bits (8 - v) left) more cursor.rest.now r
      → OfRanges (bits 8 mask) (take v slots ++ more) begin.rest.now r
  pub after : IsAfter begin cursor
  pub others : drop v slots ≡ replicate (8 - v) None
  pub size : length slots ≡ 8

module _ (begin cursor : Cursor) (mask v left : ℕ) (slots : List (Option Range)) (small : v < 8)
    (walk : IsSlotWalk begin mask v left slots cursor) where
  abbrev after_v : ℕ
  after_v = 8 - (v + 1)

  left_bits : (bit : Bool) → (left % 2 == 1) ≡ bit
      → bits (8 - v) left ≡ bit ∷ bits after_v (left / 2)
  left_bits bit is =
      let size : 8 - v ≡ suc after_v = omega (arith, small) in
      ap (λ (n : ℕ). bits n left) size ∙ ap (λ (b : Bool). b ∷ bits after_v (left / 2)) is

  left_slots : drop v slots ≡ None ∷ replicate after_v None
  left_slots =
      let size : 8 - v ≡ suc after_v = omega (arith, small) in
      walk.others ∙ ap (λ (n : ℕ). replicate n None) size

  pub walk_live : (ends : Range) (next : Cursor) → left % 2 ≡ 1 → IsAt range cursor ends next
      → IsSlotWalk begin mask (v + 1) (left / 2) (set slots v (Some ends)) next
  walk_live ends next odd here =
      let live = bits after_v (left / 2) in
      let e = left_bits true (ap (λ (n : ℕ). n == 1) odd) in
      let there = drop_set v slots (Some ends) None (replicate after_v None) left_slots in
      let same : suc v ≡ v + 1 = omega arith in
      record {
        fails = λ fault fails. walk.fails fault
            (subst (λ (l : List Bool). RangesFail l cursor.at cursor.rest.now fault) (sym e)
            (then_fails range cursor next ends (λ _. RangesFail live) fault here fails));
        stands = λ more r stand.
            let both = then_stands range cursor next ends (λ _. OfRanges live) more r here stand in
            let whole =
            live_back live (ends, more) cursor.rest.now r
            (small_of cursor.rest.now cursor.bytes) both in
            let joined : take v slots ++ (Some ends ∷ more)
            ≡ take (v + 1) (set slots v (Some ends)) ++ more =
            ap (λ (front : List (Option Range)). front ++ (Some ends ∷ more))
            (sym (take_set v slots (Some ends)))
            ∙ sym (join_next v (set slots v (Some ends)) (Some ends) (replicate after_v None)
            more there)
            ∙ ap (λ (n : ℕ). take n (set slots v (Some ends)) ++ more) same in
            subst (λ (all : List (Option Range)). OfRanges (bits 8 mask) all begin.rest.now r)
            joined
            (walk.stands (Some ends ∷ more) r
            (subst (λ (l : List Bool). OfRanges l (Some ends ∷ more) cursor.rest.now r) (sym e)
            whole));
        after = after_part range cursor next ends here ∙ walk.after;
        others = ap (λ (n : ℕ). drop n (set slots v (Some ends))) (sym same)
            ∙ drop_next v (set slots v (Some ends)) (Some ends) (replicate after_v None) there;
        size = length_set v slots (Some ends) ∙ walk.size;
      }

  pub walk_dead : (left % 2 == 1) ≡ false
      → IsSlotWalk begin mask (v + 1) (left / 2) slots cursor
  walk_dead even =
      let live = bits after_v (left / 2) in
      let e = left_bits false even in
      let same : suc v ≡ v + 1 = omega arith in
      record {
        fails = λ fault fails. walk.fails fault
            (subst (λ (l : List Bool). RangesFail l cursor.at cursor.rest.now fault) (sym e) fails);
        stands = λ more r stand.
            let whole =
            dead_back live more cursor.rest.now r (small_of cursor.rest.now cursor.bytes) stand in
            let joined : take v slots ++ (None ∷ more) ≡ take (v + 1) slots ++ more =
            sym (join_next v slots None (replicate after_v None) more left_slots)
            ∙ ap (λ (n : ℕ). take n slots ++ more) same in
            subst (λ (all : List (Option Range)). OfRanges (bits 8 mask) all begin.rest.now r)
            joined
            (walk.stands (None ∷ more) r
            (subst (λ (l : List Bool). OfRanges l (None ∷ more) cursor.rest.now r) (sym e)
            whole));
        after = walk.after;
        others = ap (λ (n : ℕ). drop n slots) (sym same)
            ∙ drop_next v slots None (replicate after_v None) left_slots;
        size = walk.size;
      }

  -- a range that fails
  pub walk_fails : (fault : ContainerFault) → left % 2 ≡ 1
      → range.Fails cursor.at cursor.rest.now fault
      → RangesFail (bits 8 mask) begin.at begin.rest.now fault
  walk_fails fault odd fails =
      let e = left_bits true (ap (λ (n : ℕ). n == 1) odd) in
      walk.fails fault
      (subst (λ (l : List Bool). RangesFail l cursor.at cursor.rest.now fault) (sym e)
      (inl fails))

-- all slots are read
pub walk_ends : (begin cursor : Cursor) (mask v left : ℕ) (slots : List (Option Range))
    → v ≡ 8 → IsSlotWalk begin mask v left slots cursor
    → OfRanges (bits 8 mask) slots begin.rest.now cursor.rest.now
walk_ends begin cursor mask v left slots end at_v =
    let walk = subst (λ (n : ℕ). IsSlotWalk begin mask n left slots cursor) end at_v in
    let all : take 8 slots ++ [] ≡ slots =
    ap (λ (n : ℕ). take n slots ++ []) (sym walk.size) ∙ take_all slots in
    subst (λ (s : List (Option Range)). OfRanges (bits 8 mask) s begin.rest.now cursor.rest.now)
    all (walk.stands [] cursor.rest.now (refl, refl, refl))

-- the mask and the slots after it
pub slots_at : (cursor after_mask next : Cursor) (mask : ℕ) (slots : List (Option Range))
    → IsAt (number 1 C4 (λ _. true)) cursor mask after_mask
    → OfRanges (bits 8 mask) slots after_mask.rest.now next.rest.now
    → IsAfter after_mask next → IsAt slots_part cursor slots next
slots_at cursor after_mask next mask slots head stand after =
    let both =
    then_stands (number 1 C4 (λ _. true)) cursor after_mask mask (λ mask. OfRanges (bits 8 mask))
    slots next.rest.now head stand in
    stands_at slots_part cursor next slots
    (slots_back (mask, slots) cursor.rest.now next.rest.now
    (small_of cursor.rest.now cursor.bytes) both)
    (after ∙ after_part (number 1 C4 (λ _. true)) cursor after_mask mask head)
