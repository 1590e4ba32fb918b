-- How many parts the pieces are in, and what a group that goes aside does to the places.
use Rattle.std.proofs.Common.{◌≡◌, ◌≢◌, ℕ, zero, suc, ◌+◌, ◌≤◌, min, ◌==◌, if◌then◌else◌}
use Rattle.std.proofs.Common.{List, [], ◌∷◌, length, replicate, refl, sym, ap, subst, ◌∙◌, inl, inr, arith}
use Rattle.std.proofs.lemmas.Bool.{cond_both}
use Rattle.std.proofs.lemmas.Bool.Decides.{nat_tests}
use Rattle.std.proofs.lemmas.List.Elements.{All-nil, All-cons, All-head, All-tail}
use Rattle.std.specs.List.{AllZip}
use Rattle.burr_state.specs.Views.Offsets.{PositionHolds, PositionsHold}
use native.Mathlib.Decide.{ℕ_discrete}
use Rattle.burr_code.specs.declared.placement.Placement.{Placement}
use Rattle.burr_code.specs.declared.placement.Placement.TheVariants.{Apart, On}
use Rattle.burr_code.specs.Places.{LiesIn, AllLieIn, IsPartOfTray, IsEmptyTray, changed, to_tray, is_in, count_in, parted_in, parted, aside_places}
use Rattle.burr_state.specs.Views.Parts.{parts}
use Rattle.burr_code.proofs.Common.PieceSets.{no_bit, set_bit}
use Rattle.burr_state.proofs.Common.Trays.Counts.{All-changed, lies_still, lies_there}
use Rattle.burr_code.proofs.Common.Counts.{count_in-empty, count_in-some}
use Rattle.burr_state.proofs.Common.Trays.Counts.{count_in-same, count_in-other, IsTaken, group_taken, count_in-third, parted_in-same, parted_in-other, count_in-parted_in}

last_or_more : (n : ℕ) → (if n == 0 then 1 else 0) + min n 1 ≡ 1
last_or_more n = grind (arith, nat_tests)

-- a piece makes a part in its tray where no other piece is there
pub parts-on : {Position : Type 0} (tray : ℕ) (position : Position) (places : List (Placement Position))
    → parts (On tray position ∷ places) + min (count_in tray places) 1 ≡ parts places + 1
parts-on tray position places = omega (arith, last_or_more (count_in tray places))

-- there are as many parts as pieces at most
pub parts_at_most : {Position : Type 0} (places : List (Placement Position)) → parts places ≤ length places
parts_at_most [] = omega arith
parts_at_most (Apart ∷ places) = omega (arith, parts_at_most places)
parts_at_most (On tray position ∷ places) = omega (arith, parts-on tray position places, parts_at_most places)

-- pieces that are all in tray 0 are one part
pub parts_at_start : {Position : Type 0} (n : ℕ) (position : Position) → parts (replicate (suc n) (On 0 position)) ≡ 1
parts_at_start zero position = refl
parts_at_start (suc n) position = omega (arith, parts_at_start n position, parts-on 0 position (replicate (suc n) (On 0 position)))

-- A group goes from one tray to an empty one

-- the parts afterwards: one in each of the two trays that has pieces, in place of the one that the tray had, and all others
abbrev PartsFollow : {Position : Type 0} → ℕ → ℕ → List (Placement Position) → List (Placement Position) → Type 0
PartsFollow here there old new = parts new + min (count_in here old) 1 ≡ parts old + min (count_in here new) 1 + min (count_in there new) 1

-- one more piece goes
follow_taken : {Position : Type 0} (here there : ℕ) (position : Position) (old new : List (Placement Position))
    → here ≢ there → PartsFollow here there old new → PartsFollow here there (On here position ∷ old) (On there position ∷ new)
follow_taken here there position old new apart rest =
    omega (
      arith,
      parts-on here position old,
      parts-on there position new,
      count_in-same here position old,
      count_in-same there position new,
      count_in-other here there position new (λ e. apart (sym e)),
    )

-- one more piece stays in the tray
follow_left : {Position : Type 0} (here there : ℕ) (position : Position) (old new : List (Placement Position))
    → here ≢ there → PartsFollow here there old new → PartsFollow here there (On here position ∷ old) (On here position ∷ new)
follow_left here there position old new apart rest =
    omega (
      arith,
      parts-on here position old,
      parts-on here position new,
      count_in-same here position old,
      count_in-same here position new,
      count_in-other there here position new apart,
    )

-- one more piece is in a third tray
follow_third : {Position : Type 0} (here there t : ℕ) (position : Position) (old new : List (Placement Position))
    → t ≢ here → t ≢ there → count_in t new ≡ count_in t old → PartsFollow here there old new → PartsFollow here there (On t position ∷ old) (On t position ∷ new)
follow_third here there t position old new far near same rest =
    omega (
      arith,
      parts-on t position old,
      parts-on t position new,
      count_in-other here t position old far,
      count_in-other here t position new far,
      count_in-other there t position new near,
    )

-- one more piece stays, wherever it is
follow_kept : {Position : Type 0} (here there : ℕ) (place : Placement Position) (old new : List (Placement Position))
    → here ≢ there → count_in there (place ∷ old) ≡ 0 → AllZip (IsTaken here there) old new
    → PartsFollow here there old new → PartsFollow here there (place ∷ old) (place ∷ new)
follow_kept here there Apart old new apart empty taken rest = omega arith
follow_kept here there (On t position) old new apart empty taken rest = elim (ℕ_discrete t here) [
  | yes e ↦ rw e (follow_left here there position old new apart rest)
  | no far ↦ elim (ℕ_discrete t there) [
    | yes e ↦ absurd (omega (arith, count_in-same there position old, rw e at empty))
    | no near ↦ follow_third here there t position old new far near (count_in-third here there t old new far near taken) rest
  ]
]

parts_follow : {Position : Type 0} (here there : ℕ) (old new : List (Placement Position))
    → here ≢ there → count_in there old ≡ 0 → AllZip (IsTaken here there) old new → PartsFollow here there old new
parts_follow here there [] [] apart empty taken = omega arith
parts_follow here there [] (y ∷ new) apart empty taken = absurd taken
parts_follow here there (x ∷ old) [] apart empty taken = absurd taken
parts_follow here there (x ∷ old) (y ∷ new) apart empty taken =
    let rest : PartsFollow here there old new = parts_follow here there old new apart (omega arith) taken.1 in
    elim taken.0 [
      | inl moved ↦ rw (moved.1, moved.2) (follow_taken here there moved.0 old new apart rest)
      | inr e ↦ rw e (follow_kept here there x old new apart empty taken.1 rest)
    ]

-- A piece that is alone in a tray is apart

parts-parted_in : {Position : Type 0} (t : ℕ) (places : List (Placement Position))
    → parts (parted_in t places) + min (count_in t places) 1 ≡ parts places + count_in t places
parts-parted_in t [] = omega arith
parts-parted_in t (Apart ∷ places) = omega (arith, parts-parted_in t places)
parts-parted_in t (On u position ∷ places) =
    let rest = parts-parted_in t places in
    elim (ℕ_discrete u t) [
      | yes e ↦ rw e (omega (arith, ap parts (parted_in-same t position places), rest, parts-on t position places, count_in-same t position places))
      | no other ↦
          omega (
            arith,
            ap parts (parted_in-other t u position places other),
            rest,
            parts-on u position places,
            parts-on u position (parted_in t places),
            count_in-other t u position places other,
            count_in-parted_in u t places other,
          )
    ]

parts-parted : {Position : Type 0} (t : ℕ) (places : List (Placement Position)) → parts (parted t places) ≡ parts places
parts-parted t places = let apart = parts-parted_in t places in grind (arith, nat_tests)

-- a group that goes aside makes one part more
pub parts_after_aside : {Position : Type 0} (group here there : ℕ) (places : List (Placement Position))
    → AllLieIn places here group → IsPartOfTray group places here → IsEmptyTray places there
    → parts (aside_places group here there places) ≡ parts places + 1
parts_after_aside group here there places lie part empty =
    let gone = changed (to_tray there) group 0 places in
    let first = set_bit group part.0 in
    let some : 1 ≤ count_in here places = count_in-some here part.1 places part.2 in
    let none : count_in there places ≡ 0 = count_in-empty there places empty in
    let left : 1 ≤ count_in here gone = count_in-some here part.1 gone (lies_still (to_tray there) group part.1 here places part.3 part.2) in
    let out : 1 ≤ count_in there gone = count_in-some there first.0 gone (lies_there group first.0 here there places first.1 (lie first.0 first.1)) in
    let apart : here ≢ there = λ e. empty part.1 (subst (λ t. LiesIn places part.1 t) e part.2) in
    parts-parted there (parted here gone) ∙ parts-parted here gone
    ∙ omega (arith, parts_follow here there places gone apart none (group_taken group here there places lie))

-- What a group that goes aside keeps

-- all pieces of no group lie in any tray
pub all_lie_in_nothing : {Position : Type 0} (places : List (Placement Position)) (tray : ℕ) → AllLieIn places tray 0
all_lie_in_nothing places tray p bit = absurd (no_bit p bit)

-- the condition holds of the position, where the piece has one
PositionHolds-to_tray : {Position : Type 0} (P : Position → Type 0) (tray : ℕ) (place : Placement Position)
    → PositionHolds P place → PositionHolds P (to_tray tray place)
PositionHolds-to_tray P tray Apart holds = tt
PositionHolds-to_tray P tray (On t position) holds = holds

PositionsHold-parted_in : {Position : Type 0} (P : Position → Type 0) (t : ℕ) (places : List (Placement Position))
    → PositionsHold P places → PositionsHold P (parted_in t places)
PositionsHold-parted_in P t [] all = All-nil (PositionHolds P)
PositionsHold-parted_in P t (place ∷ places) all =
    let Q = PositionHolds P in
    All-cons Q (if is_in t place then Apart else place) (parted_in t places)
    (cond_both (is_in t place) Apart place Q (λ here. tt) (λ other. All-head Q place places all))
    (PositionsHold-parted_in P t places (All-tail Q place places all))

PositionsHold-parted : {Position : Type 0} (P : Position → Type 0) (t : ℕ) (places : List (Placement Position))
    → PositionsHold P places → PositionsHold P (parted t places)
PositionsHold-parted P t places all =
    cond_both (count_in t places == 1) (parted_in t places) places (PositionsHold P) (λ lone. PositionsHold-parted_in P t places all) (λ kept. all)

pub PositionsHold-aside_places : {Position : Type 0} (P : Position → Type 0) (group here there : ℕ) (places : List (Placement Position))
    → PositionsHold P places → PositionsHold P (aside_places group here there places)
PositionsHold-aside_places P group here there places all =
    let gone = changed (to_tray there) group 0 places in
    PositionsHold-parted P there (parted here gone)
    (PositionsHold-parted P here gone (All-changed (PositionHolds P) (to_tray there) group 0 places (PositionHolds-to_tray P there) all))
