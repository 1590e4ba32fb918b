-- Values that lie on the bench are numbers of 32 bits.
use Rattle.std.proofs.Common.{rules, ◌≡◌, ◌∙◌, ◌+◌, ◌*◌, ◌-◌, ◌≤◌, ◌<◌, ℕ, ℤ, List, length, take, drop, slice_index_or, ap, arith, refl, subst, sym, FitsSigned, to_z, of_z, to_z-of_z, w32, w64}
use Rattle.std.specs.Prelude.{pos}
use Rattle.std.proofs.lemmas.List.{get_or-drop, get_or-take}
use Rattle.burr_voxels.specs.Near.{IsWithin}
use Rattle.burr_voxels.proofs.Common.Ahead.{same_cell}
use Rattle.burr_frames.specs.Views.Clearing.{cell_of}
use Rattle.burr_frames.specs.Views.Ranges.{IsInReach, AllInReach}
use Rattle.burr_frames.proofs.clearing.offset_of.Goals as goal

-- the number as it is read and cut to 32 bits
abbrev cut : ℤ → ℤ
cut n = to_z w32 (of_z w32 (to_z w64 (of_z w64 n)))

cut_is : (n : ℤ) → IsInReach 256 n → cut n ≡ n
cut_is n near =
    let low = near.0 in
    let high = near.1 in
    let long : FitsSigned w64 n = search rules in
    let short : FitsSigned w32 n = search rules in
    ap (λ m. to_z w32 (of_z w32 m)) (to_z-of_z long) ∙ to_z-of_z short

-- the k-th value from that of a piece on
read_is : (values : List ℤ) (p q k place : ℕ) → q ≡ p → place ≡ 3 * p + k → k < 3 → 3 * p + 3 ≤ length values → AllInReach 256 values
    → cut (slice_index_or (take (length values - 3 * q) (drop (3 * q) values)) k (pos 0)) ≡ slice_index_or values place (pos 0)
read_is values p q k place same at less inside near =
    ap cut (get_or-take (length values - 3 * q) (drop (3 * q) values) k (pos 0) (omega (arith, same, less, inside))
    ∙ get_or-drop (3 * q) values k (pos 0) ∙ ap (λ n. slice_index_or values n (pos 0)) (omega (arith, same, at)))
    ∙ cut_is _ (near place (pos 0) (omega (arith, at, less, inside)))

near_is : (values : List ℤ) (p : ℕ) → 3 * p + 3 ≤ length values → AllInReach 256 values → IsWithin 256 (cell_of values p)
near_is values p inside near =
    let x = near (3 * p) (pos 0) (omega (arith, inside)) in
    let y = near (3 * p + 1) (pos 0) (omega (arith, inside)) in
    let z = near (3 * p + 2) (pos 0) (omega (arith, inside)) in
    record { x_above = x.0; x_below = x.1; y_above = y.0; y_below = y.1; z_above = z.0; z_below = z.1 }

pub returns-clause-value : goal.returns-clause-value
returns-clause-value c =
    let values = c.args.values.now in
    let p = c.args.number in
    let read = λ (k place : ℕ) (at : place ≡ 3 * p + k) (less : k < 3).
    read_is values p c.from.result k place c.from.ensures at less c.requires.inside c.requires.reach in
    same_cell _ (cell_of values p) (read 0 (3 * p) (omega arith) (omega arith)) (read 1 (3 * p + 1) refl (omega arith))
    (read 2 (3 * p + 2) refl (omega arith))

pub returns-clause-near : goal.returns-clause-near
returns-clause-near c =
    subst (IsWithin 256) (sym (returns-clause-value c)) (near_is c.args.values.now c.args.number c.requires.inside c.requires.reach)
