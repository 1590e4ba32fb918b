-- For crates above: whether sets of cells overlap, and whether one is free of another.
use Rattle.std.proofs.Common.{◌≡◌, List, Contains, refl, subst, inl, inr, ap, arith}
use Rattle.std.specs.Prelude.{◌↔◌, IsTrue, int_lt, Bool}
use Rattle.std.proofs.lemmas.Int.{ints}
use Rattle.burr_text.proofs.Common.Decisions.{Decided, decided_like, decided_and_three, decided_not, decide_test, decide_same_whole, decide_contains}
use Rattle.burr_voxels.specs.declared.cell.Cell.{Cell}
use Rattle.burr_voxels.specs.declared.direction.Direction.{Direction}
use Rattle.burr_voxels.specs.declared.direction.Direction.TheVariants.{PlusX, MinusX, PlusY, MinusY, PlusZ, MinusZ}
use Rattle.burr_voxels.specs.Grid.{IsAhead}
use Rattle.burr_voxels.specs.CellSets.{Overlap, IsFree}
use Rattle.burr_voxels.proofs.Common.Ahead.{same_cell, ahead_plus_x, ahead_minus_x, ahead_plus_y, ahead_minus_y, ahead_plus_z, ahead_minus_z}
use Rattle.burr_voxels.proofs.Common.Freedom.{free_where_none_ahead, none_ahead_where_free}

-- Cells ahead

-- whether something holds that wants two conditions, and where they hold means that a test passes
decide_on_line : {Same Also Ahead : Type 0} (test : Bool) → Decided Same → Decided Also
    → (Same → Also → IsTrue test ↔ Ahead) → (Ahead → Same × Also) → Decided Ahead
decide_on_line test (inl same) (inl also) means wants =
    decided_like (means same also).0 (means same also).1 (decide_test test)
decide_on_line test (inl same) (inr h) means wants = inr (λ ahead. h (wants ahead).1)
decide_on_line test (inr h) d means wants = inr (λ ahead. h (wants ahead).0)

pub decide_ahead : (from to : Cell) (direction : Direction) → Decided (IsAhead from to direction)
decide_ahead from to PlusX =
    decide_on_line (int_lt from.x to.x) (decide_same_whole to.y from.y) (decide_same_whole to.z from.z)
    (ahead_plus_x from to)
    (λ a. (omega (arith, ints, ap (λ (c : Cell). c.y) a.2), omega (arith, ints, ap (λ (c : Cell). c.z) a.2)))
decide_ahead from to MinusX =
    decide_on_line (int_lt to.x from.x) (decide_same_whole to.y from.y) (decide_same_whole to.z from.z)
    (ahead_minus_x from to)
    (λ a. (omega (arith, ints, ap (λ (c : Cell). c.y) a.2), omega (arith, ints, ap (λ (c : Cell). c.z) a.2)))
decide_ahead from to PlusY =
    decide_on_line (int_lt from.y to.y) (decide_same_whole to.x from.x) (decide_same_whole to.z from.z)
    (ahead_plus_y from to)
    (λ a. (omega (arith, ints, ap (λ (c : Cell). c.x) a.2), omega (arith, ints, ap (λ (c : Cell). c.z) a.2)))
decide_ahead from to MinusY =
    decide_on_line (int_lt to.y from.y) (decide_same_whole to.x from.x) (decide_same_whole to.z from.z)
    (ahead_minus_y from to)
    (λ a. (omega (arith, ints, ap (λ (c : Cell). c.x) a.2), omega (arith, ints, ap (λ (c : Cell). c.z) a.2)))
decide_ahead from to PlusZ =
    decide_on_line (int_lt from.z to.z) (decide_same_whole to.x from.x) (decide_same_whole to.y from.y)
    (ahead_plus_z from to)
    (λ a. (omega (arith, ints, ap (λ (c : Cell). c.x) a.2), omega (arith, ints, ap (λ (c : Cell). c.y) a.2)))
decide_ahead from to MinusZ =
    decide_on_line (int_lt to.z from.z) (decide_same_whole to.x from.x) (decide_same_whole to.y from.y)
    (ahead_minus_z from to)
    (λ a. (omega (arith, ints, ap (λ (c : Cell). c.x) a.2), omega (arith, ints, ap (λ (c : Cell). c.y) a.2)))

-- Groups of cells

-- a cell of the others is ahead of a cell of the group
abbrev SomeAhead : List Cell → List Cell → Direction → Type 0
SomeAhead group others direction =
    (from : Cell) × Contains group from × ((to : Cell) × Contains others to × IsAhead from to direction)

decide_some_ahead : (group others : List Cell) (direction : Direction) → Decided (SomeAhead group others direction)
decide_some_ahead group others direction =
    decide_contains (λ from. (to : Cell) × Contains others to × IsAhead from to direction)
    (λ from. decide_contains (λ to. IsAhead from to direction) (λ to. decide_ahead from to direction) others) group

pub decide_free : (group others : List Cell) (direction : Direction) → Decided (IsFree group others direction)
decide_free group others direction =
    decided_like (λ none. free_where_none_ahead group others direction
    (λ from to here there ahead. none (from, here, (to, there, ahead))))
    (λ free some. none_ahead_where_free group others direction free some.0 some.2.0 some.1 some.2.1 some.2.2)
    (decided_not (decide_some_ahead group others direction))

-- Overlap

-- whether two cells are the same
pub decide_same_cell : (a b : Cell) → Decided (a ≡ b)
decide_same_cell a b =
    decided_like (λ all. same_cell a b all.0 all.1 all.2)
    (λ e. (ap (λ (c : Cell). c.x) e, ap (λ (c : Cell). c.y) e, ap (λ (c : Cell). c.z) e))
    (decided_and_three (decide_same_whole a.x b.x) (decide_same_whole a.y b.y) (decide_same_whole a.z b.z))

pub decide_overlap : (ps qs : List Cell) → Decided (Overlap ps qs)
decide_overlap ps qs =
    decide_contains (λ c. Contains qs c)
    (λ c. decided_like (λ found. subst (λ (d : Cell). Contains qs d) found.2 found.1) (λ there. (c, there, refl))
    (decide_contains (λ d. d ≡ c) (λ d. decide_same_cell d c) qs)) ps
