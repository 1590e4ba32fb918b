-- The forms of the offsets of a tray's pieces, three for each, and their values at a point.
use Rattle.std.proofs.Common.{◌≡◌, ◌≢◌, ◌⊎◌, ℕ, zero, suc, ◌+◌, ◌*◌, ◌<◌, ◌≤◌, ◌==◌, true, false, ℤ, List, [], ◌∷◌, length, take, Some, slice_index_or, refl, ap, ◌∙◌, arith, inl, inr}
use Rattle.std.specs.Prelude.{pos, filter}
use Rattle.std.proofs.lemmas.Bool.Decides.{nat_tests}
use Rattle.std.proofs.lemmas.List.Elements.{All-nil, All-cons, All-head, All-tail}
use Rattle.std.proofs.lemmas.Option.{same_Some, none-some}
use native.Mathlib.Decide.{ℕ_discrete}
use Rattle.burr_voxels.specs.declared.cell.Cell.{Cell}
use Rattle.burr_voxels.specs.Near.{IsWithin}
use Rattle.burr_voxels.proofs.Common.Ahead.{same_cell}
use Rattle.burr_code.specs.declared.placement.Placement.{Placement}
use Rattle.burr_code.specs.declared.placement.Placement.TheVariants.{Apart, On}
use Rattle.burr_code.specs.Places.{LiesAt, is_in}
use Rattle.burr_forms.specs.Rules.Forms.{Form, Point, value, values}
use Rattle.burr_container.specs.Rules.Plans.{FormCell}
use Rattle.burr_frames.specs.Rules.States.{cell_at}
use Rattle.burr_frames.specs.Views.Ranges.{IsInReach, AllInReach}
use Rattle.burr_frames.specs.Views.Comparing.{offset_forms}
use Rattle.burr_frames.specs.Views.Clearing.{offsets_in, number_in, cell_of}
use Rattle.burr_frames.specs.Rules.SpaceRules.{OnBenchAt}

-- In the tray or not

own_tray : (t : ℕ) → (t == t) ≡ true
own_tray t = grind (arith, nat_tests)

other_tray : (t u : ℕ) → t ≢ u → (t == u) ≡ false
other_tray t u other = grind (arith, nat_tests)

-- a place is in the tray, with an offset, or it is not
pub in_tray : (tray : ℕ) (place : Placement FormCell) → ((c : FormCell) × (place ≡ On tray c)) ⊎ (is_in tray place ≡ false)
in_tray tray Apart = inr refl
in_tray tray (On t c) = elim (ℕ_discrete t tray) [
  | yes e ↦ inl (c, ap (λ (u : ℕ). On u c) e)
  | no other ↦ inr (other_tray t tray other)
]

pub is_here : (tray : ℕ) (place : Placement FormCell) (c : FormCell) → place ≡ On tray c → is_in tray place ≡ true
is_here tray place c e = ap (is_in tray) e ∙ own_tray tray

-- The forms after a place, and the numbers of the pieces after it

module _ (tray : ℕ) (place : Placement FormCell) (places : List (Placement FormCell)) where
  pub offsets_here : (c : FormCell) → place ≡ On tray c
      → offsets_in tray (place ∷ places) ≡ c.x ∷ c.y ∷ c.z ∷ offsets_in tray places
  offsets_here c e =
      rw (is_here tray place c e) (ap (λ (x : Placement FormCell). offset_forms (x ∷ filter (is_in tray) places)) e)

  pub offsets_past : is_in tray place ≡ false → offsets_in tray (place ∷ places) ≡ offsets_in tray places
  offsets_past e = rw e refl

  number_here : (c : FormCell) (p : ℕ) → place ≡ On tray c
      → number_in tray (place ∷ places) (suc p) ≡ suc (number_in tray places p)
  number_here c p e = grind (arith, is_here tray place c e)

  number_past : (p : ℕ) → is_in tray place ≡ false
      → number_in tray (place ∷ places) (suc p) ≡ number_in tray places p
  number_past p e = grind (arith, e)

-- On the bench

three_in_reach : (x y z : ℤ) (rest : List ℤ) → IsInReach 256 x → IsInReach 256 y → IsInReach 256 z → AllInReach 256 rest
    → AllInReach 256 (x ∷ y ∷ z ∷ rest)
three_in_reach x y z rest a b d all =
    All-cons (IsInReach 256) x (y ∷ z ∷ rest) a (All-cons (IsInReach 256) y (z ∷ rest) b (All-cons (IsInReach 256) z rest d all))

-- the first three values are those of a cell on the bench, and the others are in reach
first_within : (c : FormCell) (rest : List Form) (point : Point) → AllInReach 256 (values point (c.x ∷ c.y ∷ c.z ∷ rest))
    → IsWithin 256 (cell_at point c) × AllInReach 256 (values point rest)
first_within c rest point all =
    let x = All-head (IsInReach 256) (value point c.x) (values point (c.y ∷ c.z ∷ rest)) all in
    let after_x = All-tail (IsInReach 256) (value point c.x) (values point (c.y ∷ c.z ∷ rest)) all in
    let y = All-head (IsInReach 256) (value point c.y) (values point (c.z ∷ rest)) after_x in
    let after_y = All-tail (IsInReach 256) (value point c.y) (values point (c.z ∷ rest)) after_x in
    let z = All-head (IsInReach 256) (value point c.z) (values point rest) after_y in (
      record { x_above = x.0; x_below = x.1; y_above = y.0; y_below = y.1; z_above = z.0; z_below = z.1 },
      All-tail (IsInReach 256) (value point c.z) (values point rest) after_y,
    )

-- all values are in reach where each piece of the tray is on the bench
pub reach_of_on_bench : (places : List (Placement FormCell)) (tray : ℕ) (point : Point) → OnBenchAt places tray point
    → AllInReach 256 (values point (offsets_in tray places))
reach_of_on_bench [] tray point on = All-nil (IsInReach 256)
reach_of_on_bench (place ∷ places) tray point on =
    let rest = reach_of_on_bench places tray point (λ p c lies. on (suc p) c lies) in
    elim (in_tray tray place) [
      | inl (c, e) ↦
          let near = on 0 c (ap (λ (x : Placement FormCell). Some x) e) in
          rw (offsets_here tray place places c e)
          (three_in_reach _ _ _ _ (near.x_above, near.x_below) (near.y_above, near.y_below) (near.z_above, near.z_below) rest)
      | inr e ↦ rw (offsets_past tray place places e) rest
    ]

-- each piece of the tray is on the bench where all values are in reach
pub on_bench_of_reach : (places : List (Placement FormCell)) (tray : ℕ) (point : Point)
    → AllInReach 256 (values point (offsets_in tray places)) → OnBenchAt places tray point
on_bench_of_reach [] tray point all p c lies = absurd (none-some (On tray c) lies)
on_bench_of_reach (place ∷ places) tray point all zero c lies =
    (first_within c (offsets_in tray places) point (rw (offsets_here tray place places c (same_Some place (On tray c) lies)) at all)).0
on_bench_of_reach (place ∷ places) tray point all (suc p) c lies =
    let rest : AllInReach 256 (values point (offsets_in tray places)) = elim (in_tray tray place) [
      | inl (d, e) ↦ (first_within d (offsets_in tray places) point (rw (offsets_here tray place places d e) at all)).1
      | inr e ↦ rw (offsets_past tray place places e) at all
    ] in
    on_bench_of_reach places tray point rest p c lies

-- Values three by three

third_on : {A : Type 0} (a b d e : A) (xs : List A) (i j : ℕ) → i ≡ suc (suc (suc j))
    → slice_index_or (a ∷ b ∷ d ∷ xs) i e ≡ slice_index_or xs j e
third_on {A} a b d e xs i j same = ap (λ (k : ℕ). slice_index_or (a ∷ b ∷ d ∷ xs) k e) same

-- those of the number after this one
cell_after : (a b d : ℤ) (numbers : List ℤ) (m n : ℕ) → m ≡ suc n → cell_of (a ∷ b ∷ d ∷ numbers) m ≡ cell_of numbers n
cell_after a b d numbers m n e =
    same_cell _ _ (third_on a b d (pos 0) numbers (3 * m) (3 * n) (omega (arith, e)))
    (third_on a b d (pos 0) numbers (3 * m + 1) (3 * n + 1) (omega (arith, e)))
    (third_on a b d (pos 0) numbers (3 * m + 2) (3 * n + 2) (omega (arith, e)))

-- those with this number are the cell, and they stand among the values
abbrev pub StandsAt : List Form → Point → ℕ → Cell → Type 0
StandsAt forms point n cell = (cell_of (values point forms) n ≡ cell) × (3 * n + 3 ≤ length forms)

-- a piece more in front
stands_here : (forms rest : List Form) (point : Point) (m n : ℕ) (cell : Cell) (c : FormCell)
    → forms ≡ c.x ∷ c.y ∷ c.z ∷ rest → m ≡ suc n → StandsAt rest point n cell → StandsAt forms point m cell
stands_here forms rest point m n cell c are one_more (is, inside) = (
  ap (λ (fs : List Form). cell_of (values point fs) m) are
      ∙ cell_after (value point c.x) (value point c.y) (value point c.z) (values point rest) m n one_more ∙ is,
  omega (arith, inside, one_more, ap (length {A = Form}) are),
)

-- Of one of the first n pieces that lies in the tray, they are its offset at the point.
pub stands_at : (n : ℕ) (places : List (Placement FormCell)) (tray p : ℕ) (c : FormCell) (point : Point) → p < n
    → LiesAt places p tray c → StandsAt (offsets_in tray places) point (number_in tray (take n places) p) (cell_at point c)
stands_at zero places tray p c point below lies = absurd (omega (arith, below))
stands_at (suc n) [] tray p c point below lies = absurd (none-some (On tray c) lies)
stands_at (suc n) (place ∷ places) tray zero c point below lies =
    let are = offsets_here tray place places c (same_Some place (On tray c) lies) in
    (ap (λ (forms : List Form). cell_of (values point forms) 0) are, omega (arith, ap (length {A = Form}) are))
stands_at (suc n) (place ∷ places) tray (suc p) c point below lies =
    let rest = stands_at n places tray p c point (omega (arith, below)) lies in
    elim (in_tray tray place) [
      | inl (d, e) ↦
          stands_here _ (offsets_in tray places) point _ _ (cell_at point c) d (offsets_here tray place places d e)
          (number_here tray place (take n places) d p e) rest
      | inr e ↦ rw (offsets_past tray place places e, number_past tray place (take n places) p e) rest
    ]
