-- The places of a set's pieces are changed; and how many pieces are counted in a tray.
use Rattle.std.proofs.Common.{◌≡◌, ◌≢◌, ◌⊎◌, ◌↔◌, ℕ, zero, suc, ◌+◌, ◌*◌, ◌%◌, ◌^◌, ◌<◌, ◌==◌, if◌then◌else◌}
use Rattle.std.proofs.Common.{List, [], ◌∷◌, slice_get, slice_index_or, slice_set, Some, All}
use Rattle.std.proofs.Common.{refl, sym, ap, ap₂, subst, ◌∙◌, inl, inr, arith, w32}
use Rattle.std.proofs.lemmas.Bool.{cond_both}
use Rattle.std.proofs.lemmas.Bool.Decides.{nat_tests}
use Rattle.std.proofs.lemmas.List.Elements.{All-nil, All-cons, All-head, All-tail}
use Rattle.std.proofs.lemmas.Option.{none-some, same_Some}
use Rattle.std.proofs.lemmas.Nat.{pow_pos, one_shl, bit_set_by_shift}
use Rattle.std.proofs.lemmas.Nat.Bits.{bit_at_xor, bit_at-pow_other, bit_at-pow_same, bit_at-lt, bit_at-trailing_zeros, and_pow, shr_and_one}
use Rattle.std.specs.List.{AllZip}
use Rattle.std.specs.Int.{bit_at, trailing_zeros}
use lib.Bits.{bit_xor, xor_add_and}
use native.Mathlib.Decide.{ℕ_discrete}
use Rattle.burr_code.specs.PieceSets.{IsInSet, is_left_out}
use Rattle.burr_code.proofs.Common.PieceSets.{not_left_out, left_out, decide_bit, no_bit}
use Rattle.burr_code.specs.declared.placement.Placement.{Placement}
use Rattle.burr_code.specs.declared.placement.Placement.TheVariants.{Apart, On}
use Rattle.burr_code.specs.Places.{LiesAt, LiesIn, AllLieIn, changed, to_tray, is_in, count_in, parted_in}

-- The places of a set are changed

-- the place of piece p afterwards
abbrev pub changed_place : {Place : Type 0} → (Place → Place) → ℕ → ℕ → Place → Place
changed_place f group p place = if is_left_out group p then place else f place

pub is_changed : {Place : Type 0} (f : Place → Place) (group p : ℕ) (place : Place)
    → IsInSet group p → changed_place f group p place ≡ f place
is_changed f group p place bit = ap (λ b. if b then place else f place) (not_left_out group p bit)

pub is_kept : {Place : Type 0} (f : Place → Place) (group p : ℕ) (place : Place)
    → ¬ IsInSet group p → changed_place f group p place ≡ place
is_kept f group p place none = ap (λ b. if b then place else f place) (left_out group p none)

-- what the change keeps holds of all places afterwards
pub All-changed : {Place : Type 0} (P : Place → Type 0) (f : Place → Place) (group p : ℕ) (places : List Place)
    → ((place : Place) → P place → P (f place)) → All P places → All P (changed f group p places)
All-changed P f group p [] keeps all = All-nil P
All-changed P f group p (place ∷ places) keeps all =
    let holds = All-head P place places all in
    All-cons P (changed_place f group p place) (changed f group (suc p) places)
    (cond_both (is_left_out group p) place (f place) P (λ none. holds) (λ bit. keeps place holds))
    (All-changed P f group (suc p) places keeps (All-tail P place places all))

-- the places are the same after the change of an empty set
pub none_changed : {Place : Type 0} (f : Place → Place) (p : ℕ) (places : List Place) → changed f 0 p places ≡ places
none_changed f p [] = refl
none_changed f p (place ∷ places) = ap₂ (λ x more. x ∷ more) (is_kept f 0 p place (no_bit p)) (none_changed f (suc p) places)

-- A piece is taken out of a set

-- the rest are the others of the set
abbrev pub IsRest : ℕ → ℕ → ℕ → Type 0
IsRest set piece rest = (p : ℕ) → IsInSet rest p ↔ (IsInSet set p × (p ≢ piece))

-- the bit of a piece of the set
bit_is : (set p : ℕ) → (bit_at set p ≡ 1) ↔ IsInSet set p
bit_is set p = (
  λ one. (bit_set_by_shift set p).0 (shr_and_one set p ∙ one),
  λ bit. sym (shr_and_one set p) ∙ (bit_set_by_shift set p).1 bit,
)

-- the set without a piece that it has, whose bit is turned
turned : (set piece : ℕ) → bit_at set piece ≡ 1 → IsRest set piece (bit_xor set (2 ^ piece)) × (bit_xor set (2 ^ piece) < set)
turned set piece one = (rest, omega (arith, pow_pos piece, xor_add_and set (2 ^ piece), and_pow set piece ∙ ap (λ b. b * 2 ^ piece) one))
  where
    other_bit : (p : ℕ) → p ≢ piece → bit_at (bit_xor set (2 ^ piece)) p ≡ bit_at set p
    other_bit p other = omega (arith, bit_at_xor set (2 ^ piece) p, bit_at-pow_other piece p other, bit_at-lt set p)

    gone : bit_at (bit_xor set (2 ^ piece)) piece ≡ 0
    gone = omega (arith, bit_at_xor set (2 ^ piece) piece, bit_at-pow_same piece, one)

    rest : IsRest set piece (bit_xor set (2 ^ piece))
    rest p = (
      λ bit. let left = (bit_is (bit_xor set (2 ^ piece)) p).1 bit in
          elim (ℕ_discrete p piece) [
            | yes same ↦ absurd (omega (arith, left, ap (bit_at (bit_xor set (2 ^ piece))) same, gone))
            | no other ↦ ((bit_is set p).0 (sym (other_bit p other) ∙ left), other)
          ],
      λ had. (bit_is (bit_xor set (2 ^ piece)) p).0 (other_bit p had.1 ∙ (bit_is set p).1 had.0),
    )

-- the lowest piece is taken out of a set
pub lowest_taken : (set : ℕ) → 0 < set → set < 2 ^ 32
    → IsInSet set (trailing_zeros w32 set)
    × IsRest set (trailing_zeros w32 set) (bit_xor set (1 * 2 ^ trailing_zeros w32 set % 2 ^ 32))
    × (bit_xor set (1 * 2 ^ trailing_zeros w32 set % 2 ^ 32) < set)
lowest_taken set positive fits =
    let lowest = bit_at-trailing_zeros w32 set positive fits in
    let piece = trailing_zeros w32 set in
    let left = turned set piece lowest.1 in
    rw (one_shl piece 32 lowest.0) ((bit_is set piece).0 lowest.1, left.0, left.1)

-- another piece is left out of the rest where it is left out of the set
left_out_alike : (set piece rest p : ℕ) → IsRest set piece rest → p ≢ piece → is_left_out rest p ≡ is_left_out set p
left_out_alike set piece rest p others other = elim (decide_bit set p) [
  | inl bit ↦ not_left_out rest p ((others p).1 (bit, other)) ∙ sym (not_left_out set p bit)
  | inr out ↦ left_out rest p (λ bit. out ((others p).0 bit).0) ∙ sym (left_out set p out)
]

-- beyond the piece the rest changes what the set does
changed_beyond : {Place : Type 0} (f : Place → Place) (set piece rest p : ℕ) (places : List Place)
    → IsRest set piece rest → piece < p → changed f rest p places ≡ changed f set p places
changed_beyond f set piece rest p [] others beyond = refl
changed_beyond f set piece rest p (place ∷ places) others beyond =
    ap₂ (λ out more. (if out then place else f place) ∷ more) (left_out_alike set piece rest p others (λ e. omega arith))
    (changed_beyond f set piece rest (suc p) places others (omega arith))

first_changed_from : {Place : Type 0} (f : Place → Place) (set piece rest p k : ℕ) (places : List Place) (d : Place)
    → p + k ≡ piece → IsInSet set piece → IsRest set piece rest
    → changed f rest p (slice_set places k (f (slice_index_or places k d))) ≡ changed f set p places
first_changed_from f set piece rest p k [] d e bit others = refl
first_changed_from f set piece rest p zero (place ∷ places) d e bit others =
    let here : p ≡ piece = omega arith in
    ap₂ (λ x more. x ∷ more)
    (is_kept f rest p (f place) (λ left. ((others p).0 left).1 here) ∙ sym (is_changed f set p place (subst (IsInSet set) (sym here) bit)))
    (changed_beyond f set piece rest (suc p) places others (omega arith))
first_changed_from f set piece rest p (suc k) (place ∷ places) d e bit others =
    ap₂ (λ out more. (if out then place else f place) ∷ more) (left_out_alike set piece rest p others (λ same. omega arith))
    (first_changed_from f set piece rest (suc p) k places d (omega arith) bit others)

-- a piece of the set is changed first, and then the rest
pub first_changed : {Place : Type 0} (f : Place → Place) (set piece rest : ℕ) (places : List Place) (d : Place)
    → IsInSet set piece → IsRest set piece rest
    → changed f rest 0 (slice_set places piece (f (slice_index_or places piece d))) ≡ changed f set 0 places
first_changed f set piece rest places d = first_changed_from f set piece rest 0 piece places d (omega arith)

slice_get-changed_from : {Place : Type 0} (f : Place → Place) (group p k i : ℕ) (places : List Place) (place : Place)
    → p + k ≡ i → slice_get places k ≡ Some place → slice_get (changed f group p places) k ≡ Some (changed_place f group i place)
slice_get-changed_from f group p k i [] place e at = absurd (none-some _ at)
slice_get-changed_from f group p zero i (first ∷ places) place e at =
    ap (λ x. Some (changed_place f group p x)) (same_Some _ _ at) ∙ ap (λ j. Some (changed_place f group j place)) (omega arith)
slice_get-changed_from f group p (suc k) i (first ∷ places) place e at =
    slice_get-changed_from f group (suc p) k i places place (omega arith) at

pub slice_get-changed : {Place : Type 0} (f : Place → Place) (group p : ℕ) (places : List Place) (place : Place)
    → slice_get places p ≡ Some place → slice_get (changed f group 0 places) p ≡ Some (changed_place f group p place)
slice_get-changed f group p places place at = slice_get-changed_from f group 0 p p places place (omega arith) at

changed_back_from : {Place : Type 0} (f : Place → Place) (group p k i : ℕ) (places : List Place) (new : Place)
    → p + k ≡ i → slice_get (changed f group p places) k ≡ Some new → (old : Place) × (slice_get places k ≡ Some old) × (changed_place f group i old ≡ new)
changed_back_from f group p k i [] new e at = absurd (none-some _ at)
changed_back_from f group p zero i (first ∷ places) new e at =
    (first, refl, ap (λ j. changed_place f group j first) (omega arith) ∙ same_Some (changed_place f group p first) new at)
changed_back_from f group p (suc k) i (first ∷ places) new e at = changed_back_from f group (suc p) k i places new (omega arith) at

-- the place of a piece before
pub changed_back : {Place : Type 0} (f : Place → Place) (group p : ℕ) (places : List Place) (new : Place)
    → slice_get (changed f group 0 places) p ≡ Some new → (old : Place) × (slice_get places p ≡ Some old) × (changed_place f group p old ≡ new)
changed_back f group p places new at = changed_back_from f group 0 p p places new (omega arith) at

-- a piece that is not of the set stays where it is
pub lies_still_at : {Position : Type 0} (f : Placement Position → Placement Position) (group p tray : ℕ) (position : Position) (places : List (Placement Position))
    → ¬ IsInSet group p → LiesAt places p tray position → LiesAt (changed f group 0 places) p tray position
lies_still_at f group p tray position places out lies =
    slice_get-changed f group p places (On tray position) lies ∙ ap Some (is_kept f group p (On tray position) out)

pub lies_still : {Position : Type 0} (f : Placement Position → Placement Position) (group p tray : ℕ) (places : List (Placement Position))
    → ¬ IsInSet group p → LiesIn places p tray → LiesIn (changed f group 0 places) p tray
lies_still f group p tray places out lies = (lies.0, lies_still_at f group p tray lies.0 places out lies.1)

-- a piece of the group goes to the other tray
pub lies_there_at : {Position : Type 0} (group p here there : ℕ) (position : Position) (places : List (Placement Position))
    → IsInSet group p → LiesAt places p here position → LiesAt (changed (to_tray there) group 0 places) p there position
lies_there_at group p here there position places bit lies =
    slice_get-changed (to_tray there) group p places (On here position) lies ∙ ap Some (is_changed (to_tray there) group p (On here position) bit)

pub lies_there : {Position : Type 0} (group p here there : ℕ) (places : List (Placement Position))
    → IsInSet group p → LiesIn places p here → LiesIn (changed (to_tray there) group 0 places) p there
lies_there group p here there places bit lies = (lies.0, lies_there_at group p here there lies.0 places bit lies.1)

-- a piece that is apart is so wherever the set goes
pub apart_still : {Position : Type 0} (group p there : ℕ) (places : List (Placement Position))
    → slice_get places p ≡ Some Apart → slice_get (changed (to_tray there) group 0 places) p ≡ Some Apart
apart_still group p there places apart =
    slice_get-changed (to_tray there) group p places Apart apart ∙ ap Some (cond_both (is_left_out group p) Apart (to_tray there Apart) (λ place. place ≡ Apart) (λ out. refl) (λ bit. refl))

-- How many pieces are in a tray

pub count_in-same : {Position : Type 0} (t : ℕ) (position : Position) (places : List (Placement Position))
    → count_in t (On t position ∷ places) ≡ suc (count_in t places)
count_in-same t position places = grind (arith, nat_tests)

pub count_in-other : {Position : Type 0} (t u : ℕ) (position : Position) (places : List (Placement Position))
    → u ≢ t → count_in t (On u position ∷ places) ≡ count_in t places
count_in-other t u position places other = grind (arith, nat_tests)

-- Pieces go from one tray to another

-- a piece of the one tray is in the other afterwards, or a piece has stayed
abbrev pub IsTaken : {Position : Type 0} → ℕ → ℕ → Placement Position → Placement Position → Type 0
IsTaken {Position} here there old new = ((position : Position) × (old ≡ On here position) × (new ≡ On there position)) ⊎ (new ≡ old)

one_taken : {Position : Type 0} (group here there p : ℕ) (place : Placement Position)
    → (IsInSet group p → (position : Position) × (place ≡ On here position)) → IsTaken here there place (changed_place (to_tray there) group p place)
one_taken group here there p place lies = elim (decide_bit group p) [
  | inl bit ↦ let is = lies bit in inl (is.0, is.1, is_changed (to_tray there) group p place bit ∙ ap (to_tray there) is.1)
  | inr out ↦ inr (is_kept (to_tray there) group p place out)
]

all_taken : {Position : Type 0} (group here there p : ℕ) (places : List (Placement Position))
    → ((k i : ℕ) → p + k ≡ i → IsInSet group i → LiesIn places k here)
    → AllZip (IsTaken here there) places (changed (to_tray there) group p places)
all_taken group here there p [] lie = tt
all_taken group here there p (place ∷ places) lie = (
  one_taken group here there p place (λ bit. let lies = lie 0 p (omega arith) bit in (lies.0, same_Some _ _ lies.1)),
  all_taken group here there (suc p) places (λ k i e bit. lie (suc k) i (omega arith) bit),
)

pub group_taken : {Position : Type 0} (group here there : ℕ) (places : List (Placement Position))
    → AllLieIn places here group → AllZip (IsTaken here there) places (changed (to_tray there) group 0 places)
group_taken group here there places lie =
    all_taken group here there 0 places (λ k i e bit. subst (λ j. LiesIn places j here) (omega arith) (lie i bit))

third_alike : {Position : Type 0} (here there t : ℕ) (old new : Placement Position)
    → t ≢ here → t ≢ there → IsTaken here there old new → is_in t new ≡ is_in t old
third_alike here there t old new far near (inl moved) = rw (moved.1, moved.2) (grind (arith, nat_tests))
third_alike here there t old new far near (inr e) = ap (is_in t) e

-- a third tray has as many pieces as before
pub count_in-third : {Position : Type 0} (here there t : ℕ) (old new : List (Placement Position))
    → t ≢ here → t ≢ there → AllZip (IsTaken here there) old new → count_in t new ≡ count_in t old
count_in-third here there t [] [] far near taken = refl
count_in-third here there t [] (y ∷ new) far near taken = absurd taken
count_in-third here there t (x ∷ old) [] far near taken = absurd taken
count_in-third here there t (x ∷ old) (y ∷ new) far near taken =
    rw (third_alike here there t x y far near taken.0, count_in-third here there t old new far near taken.1) refl

-- The pieces of a tray are apart afterwards

pub parted_in-same : {Position : Type 0} (t : ℕ) (position : Position) (places : List (Placement Position))
    → parted_in t (On t position ∷ places) ≡ Apart ∷ parted_in t places
parted_in-same t position places = grind (arith, nat_tests)

pub parted_in-other : {Position : Type 0} (t u : ℕ) (position : Position) (places : List (Placement Position))
    → u ≢ t → parted_in t (On u position ∷ places) ≡ On u position ∷ parted_in t places
parted_in-other t u position places other = grind (arith, nat_tests)

-- another tray has as many pieces as before
pub count_in-parted_in : {Position : Type 0} (t u : ℕ) (places : List (Placement Position))
    → t ≢ u → count_in t (parted_in u places) ≡ count_in t places
count_in-parted_in t u [] other = refl
count_in-parted_in t u (Apart ∷ places) other = omega (arith, count_in-parted_in t u places other)
count_in-parted_in t u (On v position ∷ places) other =
    let rest = count_in-parted_in t u places other in
    elim (ℕ_discrete v u) [
      | yes e ↦ rw e (omega (arith, ap (count_in t) (parted_in-same u position places), rest, count_in-other t u position places (λ is. other (sym is))))
      | no far ↦ ap (count_in t) (parted_in-other u v position places far) ∙ ap (λ n. (if v == t then 1 else 0) + n) rest
    ]
