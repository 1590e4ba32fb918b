-- Whether the conditions on the cells of pieces that lie in a tray hold.
use Rattle.std.proofs.Common.{◌≢◌, ℕ, ◌≤◌, List, length, arith}
use Rattle.burr_text.proofs.Common.Decisions.{Decided, decided_like, decided_and, decided_and_three, decided_not, decide_same}
use Rattle.burr_voxels.specs.declared.cell.Cell.{Cell}
use Rattle.burr_voxels.specs.declared.direction.Direction.{Direction}
use Rattle.burr_voxels.specs.Grid.{shifted}
use Rattle.burr_voxels.specs.Near.{IsWithin}
use Rattle.burr_voxels.specs.CellSets.{Overlap, IsFree}
use Rattle.burr_code.specs.PieceSets.{IsInSet}
use Rattle.burr_code.specs.declared.placement.Placement.{Placement}
use Rattle.burr_code.specs.Places.{LiesAt}
use Rattle.burr_code.proofs.Common.Orders.{decide_le}
use Rattle.burr_code.proofs.Common.PieceSets.{decide_bit}
use Rattle.burr_assembly.specs.Rules.Homes.{HasHome}
use Rattle.burr_state.specs.Rules.Space.{NoOverlapIn, AllOnBench, IsFreeGroup}
use Rattle.burr_code.proofs.Common.Conditions.{decided_implies, decide_all_numbers, decide_of_the_one, decide_found, one_in_list, decide_lies, one_position, lies_within}
use Rattle.burr_voxels.proofs.Common.Decided.{decide_overlap, decide_free}

-- One piece

decide_within : (n : ℕ) (c : Cell) → Decided (IsWithin n c)
decide_within n c =
    decided_like (λ all. record { x_above = all.0.0; x_below = all.0.1; y_above = all.1.0; y_below = all.1.1; z_above = all.2.0; z_below = all.2.1 })
    (λ w. ((w.x_above, w.x_below), (w.y_above, w.y_below), (w.z_above, w.z_below)))
    (decided_and_three (decided_and (decide_le _ _) (decide_le _ _)) (decided_and (decide_le _ _) (decide_le _ _)) (decided_and (decide_le _ _) (decide_le _ _)))

pub decide_on_bench : (places : List (Placement Cell)) (tray : ℕ) → Decided (AllOnBench places tray)
decide_on_bench places tray =
    decide_all_numbers (λ p. (offset : Cell) → LiesAt places p tray offset → IsWithin 256 offset)
    (λ p. decide_of_the_one (LiesAt places p tray) (λ offset. IsWithin 256 offset) (one_position places p tray) (decide_lies places p tray) (λ offset. decide_within 256 offset))
    (length places) (λ p far offset lies. absurd (past p offset far lies))
  where
    past : (p : ℕ) (offset : Cell) → length places ≤ p → ¬ LiesAt places p tray offset
    past p offset far lies = let near = lies_within places p tray (offset, lies) in omega arith

-- Two pieces

-- a condition on the cells of two chosen pieces of a tray
abbrev PairOf : (ℕ → ℕ → Type 0) → (List Cell → List Cell → Type 0) → List (List Cell) → List (Placement Cell) → ℕ → ℕ → ℕ → Type 0
PairOf IsChosen IsGood homes places tray p q =
    IsChosen p q → (p_home : List Cell) → HasHome homes p p_home → (q_home : List Cell) → HasHome homes q q_home → (p_offset : Cell) → LiesAt places p tray p_offset
    → (q_offset : Cell) → LiesAt places q tray q_offset → IsGood (shifted p_offset p_home) (shifted q_offset q_home)

decide_pairs : (IsChosen : ℕ → ℕ → Type 0) (IsGood : List Cell → List Cell → Type 0) → ((p q : ℕ) → Decided (IsChosen p q)) → ((a b : List Cell) → Decided (IsGood a b))
    → (homes : List (List Cell)) (places : List (Placement Cell)) (tray : ℕ) → Decided ((p q : ℕ) → PairOf IsChosen IsGood homes places tray p q)
decide_pairs IsChosen IsGood chosen each homes places tray =
    decide_all_numbers (λ p. (q : ℕ) → PairOf IsChosen IsGood homes places tray p q)
    (λ p. decide_all_numbers (λ q. PairOf IsChosen IsGood homes places tray p q) (λ q. one_pair p q) (length places)
    (λ q far is p_home p_has q_home q_has p_offset p_lies q_offset q_lies. let near = lies_within places q tray (q_offset, q_lies) in absurd (omega arith)))
    (length places) (λ p far q is p_home p_has q_home q_has p_offset p_lies q_offset q_lies. let near = lies_within places p tray (p_offset, p_lies) in absurd (omega arith))
  where
    with_home : {P : List Cell → Type 0} (piece : ℕ) → ((home : List Cell) → Decided (P home)) → Decided ((home : List Cell) → HasHome homes piece home → P home)
    with_home piece at = decide_of_the_one (HasHome homes piece) _ (one_in_list homes piece) (decide_found _) at

    with_offset : {P : Cell → Type 0} (piece : ℕ) → ((offset : Cell) → Decided (P offset)) → Decided ((offset : Cell) → LiesAt places piece tray offset → P offset)
    with_offset piece at = decide_of_the_one (LiesAt places piece tray) _ (one_position places piece tray) (decide_lies places piece tray) at

    one_pair : (p q : ℕ) → Decided (PairOf IsChosen IsGood homes places tray p q)
    one_pair p q =
        decided_implies (chosen p q)
        (with_home p λ p_home. with_home q λ q_home. with_offset p λ p_offset. with_offset q λ q_offset. each (shifted p_offset p_home) (shifted q_offset q_home))

pub decide_no_overlap : (homes : List (List Cell)) (places : List (Placement Cell)) (tray : ℕ) → Decided (NoOverlapIn homes places tray)
decide_no_overlap homes places tray =
    decided_like (λ all p q p_home q_home p_offset q_offset other p_has q_has p_lies q_lies. all p q other p_home p_has q_home q_has p_offset p_lies q_offset q_lies)
    (λ all p q other p_home p_has q_home q_has p_offset p_lies q_offset q_lies. all p q p_home q_home p_offset q_offset other p_has q_has p_lies q_lies)
    (decide_pairs (λ p q. p ≢ q) (λ a b. ¬ Overlap a b) (λ p q. decided_not (decide_same p q)) (λ a b. decided_not (decide_overlap a b)) homes places tray)

pub decide_free_group : (homes : List (List Cell)) (places : List (Placement Cell)) (tray group : ℕ) (direction : Direction) → Decided (IsFreeGroup homes places tray group direction)
decide_free_group homes places tray group direction =
    decided_like (λ all p q p_home q_home p_offset q_offset inside outside p_has q_has p_lies q_lies. all p q (inside, outside) p_home p_has q_home q_has p_offset p_lies q_offset q_lies)
    (λ all p q chosen p_home p_has q_home q_has p_offset p_lies q_offset q_lies. all p q p_home q_home p_offset q_offset chosen.0 chosen.1 p_has q_has p_lies q_lies)
    (decide_pairs (λ p q. IsInSet group p × (¬ IsInSet group q)) (λ a b. IsFree a b direction) (λ p q. decided_and (decide_bit group p) (decided_not (decide_bit group q)))
    (λ a b. decide_free a b direction) homes places tray)
