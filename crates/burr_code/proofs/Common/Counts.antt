-- For crates above: what a tray's count tells.
use Rattle.std.proofs.Common.{◌≡◌, ◌≢◌, ◌↔◌, ◌≤◌, ◌==◌, ◌∙◌, ℕ, zero, suc, List, [], ◌∷◌, length, drop, Some, refl, sym, ap, arith, IsTrue, nat_eq}
use Rattle.std.specs.List.{refill}
use lib.Seq.{take-append_seam}
use Rattle.std.proofs.lemmas.Bool.{cond_both}
use Rattle.std.proofs.lemmas.Bool.Decides.{nat_tests}
use Rattle.std.proofs.lemmas.Option.{none-some, same_Some}
use Rattle.burr_code.specs.declared.placement.Placement.{Placement}
use Rattle.burr_code.specs.declared.placement.Placement.TheVariants.{Apart, On}
use Rattle.burr_code.specs.Places.{LiesIn, count_in, IsEmptyTray, changed, to_tray, parted_in, parted, aside_places}

pub count_in-empty : {Position : Type 0} (t : ℕ) (places : List (Placement Position)) → IsEmptyTray places t → count_in t places ≡ 0
count_in-empty t [] empty = refl
count_in-empty t (Apart ∷ places) empty = omega (arith, count_in-empty t places (λ p. empty (suc p)))
count_in-empty t (On u position ∷ places) empty =
    let other : u ≢ t = λ e. empty 0 (position, ap (λ v. Some (On v position)) e) in
    let rest = count_in-empty t places (λ p. empty (suc p)) in
    grind (arith, nat_tests)

pub count_in-some : {Position : Type 0} (t p : ℕ) (places : List (Placement Position)) → LiesIn places p t → 1 ≤ count_in t places
count_in-some t p [] lies = absurd (none-some _ lies.1)
count_in-some t zero (place ∷ places) lies = rw (same_Some _ _ lies.1) (grind (arith, nat_tests))
count_in-some t (suc p) (place ∷ places) lies = omega (arith, count_in-some t p places lies)

-- a tray is empty where it is counted so
pub counts_empty : {Position : Type 0} (places : List (Placement Position)) (tray count : ℕ) → count ≡ count_in tray places
    → IsTrue (nat_eq count 0) ↔ IsEmptyTray places tray
counts_empty places tray count is = (
  λ zero p lies. let some = count_in-some tray p places lies in grind (arith, nat_tests),
  λ empty. let none = count_in-empty tray places empty in grind (arith, nat_tests),
)

-- How many

-- a change leaves as many places
pub length-changed : {Place : Type 0} (f : Place → Place) (group p : ℕ) (places : List Place)
    → length (changed f group p places) ≡ length places
length-changed f group p [] = refl
length-changed f group p (place ∷ places) = ap suc (length-changed f group (suc p) places)

length-parted_in : {Position : Type 0} (t : ℕ) (places : List (Placement Position)) → length (parted_in t places) ≡ length places
length-parted_in t [] = refl
length-parted_in t (place ∷ places) = ap suc (length-parted_in t places)

length-parted : {Position : Type 0} (t : ℕ) (places : List (Placement Position)) → length (parted t places) ≡ length places
length-parted t places =
    cond_both (count_in t places == 1) (parted_in t places) places (λ more. length more ≡ length places)
    (λ lone. length-parted_in t places) (λ kept. refl)

-- going aside leaves as many places
pub length-aside_places : {Position : Type 0} (group here there : ℕ) (places : List (Placement Position))
    → length (aside_places group here there places) ≡ length places
length-aside_places group here there places =
    let gone = changed (to_tray there) group 0 places in
    length-parted there (parted here gone) ∙ length-parted here gone ∙ length-changed (to_tray there) group 0 places

-- places that are written back whole are those that were written
pub refilled : {Place : Type 0} (places moved new : List Place) → moved ≡ new → length new ≡ length places
    → refill (length places) places moved ≡ new
refilled places moved new is as_many =
    let same : length places ≡ length moved = sym as_many ∙ sym (ap length is) in
    rw same (take-append_seam moved (drop (length moved) places) ∙ is)
