-- The parts that the pieces are in are the trays in play and the pieces apart.
use Rattle.std.proofs.Common.{◌≡◌, ◌<◌, ◌≤◌, ℕ, zero, suc, ◌+◌, min}
use Rattle.std.proofs.Common.{List, [], ◌∷◌, refl, arith}
use Rattle.std.proofs.lemmas.Bool.Decides.{nat_tests}
use native.Mathlib.Decide.{ℕ_discrete}
use Rattle.burr_code.specs.declared.placement.Placement.{Placement}
use Rattle.burr_code.specs.declared.placement.Placement.TheVariants.{Apart, On}
use Rattle.burr_code.specs.Places.{LiesIn, count_in}
use Rattle.burr_state.specs.Laws.PartLaws.{trays_in_play, count_apart}
use Rattle.burr_state.specs.Views.Parts.{parts}
use Rattle.burr_state.proofs.Common.Trays.Counts.{count_in-same, count_in-other}
use Rattle.burr_state.proofs.Common.Trays.Parts.{parts-on}

-- tray n is in play where it holds a piece
trays-next : {Position : Type 0} (n : ℕ) (places : List (Placement Position))
    → trays_in_play (suc n) places ≡ min (count_in n places) 1 + trays_in_play n places
trays-next n places = grind (arith, nat_tests)

-- Trays in play, with one place more

trays_of_none : (Position : Type 0) (n : ℕ) → trays_in_play {Position = Position} n [] ≡ 0
trays_of_none Position zero = refl
trays_of_none Position (suc n) = omega (arith, trays_of_none Position n)

trays-apart : {Position : Type 0} (n : ℕ) (places : List (Placement Position))
    → trays_in_play n (Apart ∷ places) ≡ trays_in_play n places
trays-apart zero places = refl
trays-apart (suc n) places =
    omega (arith, trays-next n (Apart ∷ places), trays-next n places, trays-apart n places)

-- a piece in a tray that is not counted
trays-beyond : {Position : Type 0} (n t : ℕ) (position : Position) (places : List (Placement Position))
    → n ≤ t → trays_in_play n (On t position ∷ places) ≡ trays_in_play n places
trays-beyond zero t position places beyond = refl
trays-beyond (suc n) t position places beyond =
    omega (
      arith,
      trays-next n (On t position ∷ places),
      trays-next n places,
      count_in-other n t position places (λ e. omega arith),
      trays-beyond n t position places (omega arith),
    )

-- a piece in a tray that is counted brings it into play where no other piece is there
trays-on : {Position : Type 0} (n t : ℕ) (position : Position) (places : List (Placement Position)) → t < n
    → trays_in_play n (On t position ∷ places) + min (count_in t places) 1 ≡ trays_in_play n places + 1
trays-on zero t position places below = absurd (omega arith)
trays-on (suc n) t position places below =
    let with_it = trays-next n (On t position ∷ places) in
    let without = trays-next n places in
    elim (ℕ_discrete t n) [
      | yes e ↦
          let beyond = trays-beyond n n position places (omega arith) in
          rw e (omega (arith, rw e at with_it, without, count_in-same n position places, beyond))
      | no other ↦
          let rest = trays-on n t position places (omega arith) in
          omega (arith, with_it, without, count_in-other n t position places other, rest)
    ]

-- a part is the pieces of a tray in play, or a piece that is apart
pub parts_are_counted : {Position : Type 0} (n : ℕ) (places : List (Placement Position))
    → ((p tray : ℕ) → LiesIn places p tray → tray < n) → parts places ≡ trays_in_play n places + count_apart places
parts_are_counted {Position} n [] below = omega (arith, trays_of_none Position n)
parts_are_counted n (Apart ∷ places) below =
    omega (arith, trays-apart n places, parts_are_counted n places (λ p. below (suc p)))
parts_are_counted n (On t position ∷ places) below =
    omega (
      arith,
      parts-on t position places,
      trays-on n t position places (below 0 t (position, refl)),
      parts_are_counted n places (λ p. below (suc p)),
    )
