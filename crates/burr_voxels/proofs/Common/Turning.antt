-- For crates above: turns take no cell farther from the origin, and no two cells farther apart.
use Rattle.std.proofs.Common.{◌≡◌, ℕ, ◌+◌, ◌*◌, ◌≤◌, Bool, true, ◌&&◌, cond, nat_eq, refl, ap, subst, arith, ◌∙◌}
use Rattle.std.specs.Prelude.{ℤ, pos, ◌-ℤ◌, neg_ℤ, ◌≤ℤ◌, IsTrue}
use Rattle.std.specs.Int.RustNames.{unsigned_abs}
use Rattle.std.specs.Ordering.{int_eq}
use Rattle.std.proofs.lemmas.Bool.Decides.{nat_tests}
use Rattle.std.proofs.lemmas.Int.{ints}
use Rattle.burr_voxels.specs.declared.cell.Cell.{Cell}
use Rattle.burr_voxels.specs.declared.direction.Direction.{Direction}
use Rattle.burr_voxels.specs.declared.direction.Direction.TheVariants.{PlusX, MinusX, PlusY, MinusY, PlusZ, MinusZ}
use Rattle.burr_voxels.specs.Grid.{plus, minus, along}
use Rattle.burr_voxels.specs.Near.{IsWithin}
use Rattle.burr_voxels.specs.Turns.{determinant, turned, IsRotation}
use Rattle.burr_voxels.proofs.Common.Ahead.{same_cell}

-- all directions pass a test
abbrev all_directions : (Direction → Bool) → Bool
all_directions p = p PlusX && (p MinusX && (p PlusY && (p MinusY && (p PlusZ && p MinusZ))))

-- what all directions pass, each passes
each_direction : (p : Direction → Bool) → IsTrue (all_directions p) → (d : Direction) → IsTrue (p d)
each_direction p h PlusX = grind arith
each_direction p h MinusX = grind arith
each_direction p h PlusY = grind arith
each_direction p h MinusY = grind arith
each_direction p h PlusZ = grind arith
each_direction p h MinusZ = grind arith

-- how far a unit along a direction reaches along the x axis
abbrev reach_x : Direction → ℕ
reach_x d = unsigned_abs (along d (pos 1)).x

-- and along the y axis
abbrev reach_y : Direction → ℕ
reach_y d = unsigned_abs (along d (pos 1)).y

-- and along the z axis
abbrev reach_z : Direction → ℕ
reach_z d = unsigned_abs (along d (pos 1)).z

-- whether three directions together reach one unit along each axis
abbrev is_one_each : Direction → Direction → Direction → Bool
is_one_each x y z =
    nat_eq (reach_x x + reach_x y + reach_x z) 1 && (nat_eq (reach_y x + reach_y y + reach_y z) 1 && nat_eq (reach_z x + reach_z y + reach_z z) 1)

-- whether they do so unless they are the images of no rotation
abbrev turns_one_each : Direction → Direction → Direction → Bool
turns_one_each x y z =
    cond (int_eq (determinant (along x (pos 1)) (along y (pos 1)) (along z (pos 1))) (pos 1)) (is_one_each x y z) true

-- all triples of directions pass that test
all_turns : IsTrue (all_directions (λ x. all_directions (λ y. all_directions (λ z. turns_one_each x y z))))
all_turns = refl

-- so each triple passes it
turns_all : (x y z : Direction) → IsTrue (turns_one_each x y z)
turns_all x y z =
    let at_x = each_direction (λ a. all_directions (λ b. all_directions (λ c. turns_one_each a b c))) all_turns x in
    let at_y = each_direction (λ b. all_directions (λ c. turns_one_each x b c)) at_x y in
    each_direction (λ c. turns_one_each x y c) at_y z

-- what the test of three numbers says
three_ones : (a b c : ℕ) → IsTrue (nat_eq a 1 && (nat_eq b 1 && nat_eq c 1)) → (a ≡ 1) × (b ≡ 1) × (c ≡ 1)
three_ones a b c h = (grind (arith, nat_tests), grind (arith, nat_tests), grind (arith, nat_tests))

-- the images of a rotation together reach one unit along each axis
one_each : (x y z : Direction) → IsRotation x y z → (reach_x x + reach_x y + reach_x z ≡ 1) × (reach_y x + reach_y y + reach_y z ≡ 1) × (reach_z x + reach_z y + reach_z z ≡ 1)
one_each x y z r = three_ones _ _ _ (rw r at (turns_all x y z))

-- the coordinates are at most these, each its own, either way
record IsBounded (a b c : ℕ) (p : Cell) : Type 0 where
  x : unsigned_abs p.x ≤ a
  y : unsigned_abs p.y ≤ b
  z : unsigned_abs p.z ≤ c

-- what lies along a direction is bounded by the reaches
along_bounded : (d : Direction) (k : ℤ) (n : ℕ) → unsigned_abs k ≤ n → IsBounded (n * reach_x d) (n * reach_y d) (n * reach_z d) (along d k)
along_bounded PlusX k n h = record { x = omega (arith, ints); y = omega (arith, ints); z = omega (arith, ints) }
along_bounded MinusX k n h = record { x = omega (arith, ints); y = omega (arith, ints); z = omega (arith, ints) }
along_bounded PlusY k n h = record { x = omega (arith, ints); y = omega (arith, ints); z = omega (arith, ints) }
along_bounded MinusY k n h = record { x = omega (arith, ints); y = omega (arith, ints); z = omega (arith, ints) }
along_bounded PlusZ k n h = record { x = omega (arith, ints); y = omega (arith, ints); z = omega (arith, ints) }
along_bounded MinusZ k n h = record { x = omega (arith, ints); y = omega (arith, ints); z = omega (arith, ints) }

-- bounds add up
plus_bounded : (a b c d e f : ℕ) (p q : Cell) → IsBounded a b c p → IsBounded d e f q → IsBounded (a + d) (b + e) (c + f) (plus p q)
plus_bounded a b c d e f p q h k = record { x = omega (arith, ints); y = omega (arith, ints); z = omega (arith, ints) }

-- where no bound is above n, the cell lies within n
within_bounded : (n a b c : ℕ) (p : Cell) → IsBounded a b c p → a ≤ n → b ≤ n → c ≤ n → IsWithin n p
within_bounded n a b c p h i j k = record {
  x_above = omega (arith, ints);
  x_below = omega (arith, ints);
  y_above = omega (arith, ints);
  y_below = omega (arith, ints);
  z_above = omega (arith, ints);
  z_below = omega (arith, ints);
}

-- a number within n, either way, is at most n in size
abs_le : (n : ℕ) (a : ℤ) → neg_ℤ (pos n) ≤ℤ a → a ≤ℤ pos n → unsigned_abs a ≤ n
abs_le n a p q = omega (arith, ints)

-- the shares of a whole are at most the whole
share_le : (n a b c : ℕ) → a + b + c ≡ 1 → (n * a + n * b ≤ n) × (n * a + n * b + n * c ≤ n)
share_le n a b c e = (omega (arith, ap (λ t. n * t) e), omega (arith, ap (λ t. n * t) e))

-- a turn takes no cell farther from the origin, also halfway through its sum
pub turned_within : (x y z : Direction) → IsRotation x y z → (n : ℕ) (c : Cell) → IsWithin n c → IsWithin n (plus (along x c.x) (along y c.y)) × IsWithin n (turned x y z c)
turned_within x y z r n c h =
    let one = one_each x y z r in
    let in_x = share_le n _ _ _ one.0 in
    let in_y = share_le n _ _ _ one.1 in
    let in_z = share_le n _ _ _ one.2 in
    let two = plus_bounded _ _ _ _ _ _ _ _ (along_bounded x c.x n (abs_le n c.x h.x_above h.x_below)) (along_bounded y c.y n (abs_le n c.y h.y_above h.y_below)) in
    let all = plus_bounded _ _ _ _ _ _ _ _ two (along_bounded z c.z n (abs_le n c.z h.z_above h.z_below)) in
    (within_bounded n _ _ _ _ two in_x.0 in_y.0 in_z.0, within_bounded n _ _ _ _ all in_x.1 in_y.1 in_z.1)

-- a difference goes along a direction as its two numbers do
along_minus : (d : Direction) (k l : ℤ) → along d (k -ℤ l) ≡ minus (along d k) (along d l)
along_minus PlusX k l = same_cell _ _ (omega (arith, ints)) (omega (arith, ints)) (omega (arith, ints))
along_minus MinusX k l = same_cell _ _ (omega (arith, ints)) (omega (arith, ints)) (omega (arith, ints))
along_minus PlusY k l = same_cell _ _ (omega (arith, ints)) (omega (arith, ints)) (omega (arith, ints))
along_minus MinusY k l = same_cell _ _ (omega (arith, ints)) (omega (arith, ints)) (omega (arith, ints))
along_minus PlusZ k l = same_cell _ _ (omega (arith, ints)) (omega (arith, ints)) (omega (arith, ints))
along_minus MinusZ k l = same_cell _ _ (omega (arith, ints)) (omega (arith, ints)) (omega (arith, ints))

-- the sum of differences is the difference of sums
plus_minus : (p q r s : Cell) → plus (minus p q) (minus r s) ≡ minus (plus p r) (plus q s)
plus_minus p q r s = same_cell _ _ (omega (arith, ints)) (omega (arith, ints)) (omega (arith, ints))

-- so a turn of a difference is the sum of three differences
turned_difference : (x y z : Direction) (a b : Cell)
    → turned x y z (minus a b) ≡ plus (plus (minus (along x a.x) (along x b.x)) (minus (along y a.y) (along y b.y))) (minus (along z a.z) (along z b.z))
turned_difference x y z a b i = plus (plus (along_minus x a.x b.x i) (along_minus y a.y b.y i)) (along_minus z a.z b.z i)

-- which is the difference of the turns
turned_minus : (x y z : Direction) (a b : Cell) → turned x y z (minus a b) ≡ minus (turned x y z a) (turned x y z b)
turned_minus x y z a b =
    turned_difference x y z a b
    ∙ ap (λ (c : Cell). plus c (minus (along z a.z) (along z b.z))) (plus_minus (along x a.x) (along x b.x) (along y a.y) (along y b.y))
    ∙ plus_minus (plus (along x a.x) (along y a.y)) (plus (along x b.x) (along y b.y)) (along z a.z) (along z b.z)

-- a turn takes no two cells farther apart
pub turned_apart : (x y z : Direction) → IsRotation x y z → (n : ℕ) (a b : Cell) → IsWithin n (minus a b) → IsWithin n (minus (turned x y z a) (turned x y z b))
turned_apart x y z r n a b near = subst (IsWithin n) (turned_minus x y z a b) (turned_within x y z r n (minus a b) near).1
