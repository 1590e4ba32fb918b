-- A form is least and greatest at a corner of a box.
use Rattle.std.proofs.Common.{◌≡◌, ℕ, zero, suc, ◌+◌, ◌≤◌, ◌<◌, Bool, true, false, cond, List, [], ◌∷◌, length, take, refl, ap, sym, subst, arith, slice_index_or, ◌++◌}
use Rattle.std.specs.Prelude.{ℤ, pos, ◌+ℤ◌, ◌-ℤ◌, ◌*ℤ◌, ◌≤ℤ◌, ◌<ℤ◌, int_lt}
use Rattle.std.specs.Int.RustNames.{unsigned_abs}
use Rattle.std.proofs.lemmas.Int.{ints}
use Rattle.std.proofs.lemmas.List.Elements.{All-head, All-tail}
use Rattle.burr_forms.specs.Rules.Forms.{Form, Point, dot, value}
use Rattle.burr_forms.specs.Rules.Points.{IsRange, InRange, InBox, AreRanges}
use Rattle.burr_forms.specs.Views.Bounds.{IsLeastIn, IsGreatestIn, end_at, corner}
use Rattle.burr_forms.proofs.Carrying.{times_more}

-- Multiples along a range

up : (c x : ℤ) (n : ℕ) → pos 0 ≤ℤ c → (c *ℤ x) ≤ℤ (c *ℤ (x +ℤ pos n))
up c x zero l =
    let e : (x +ℤ pos 0) ≡ x = omega (arith, ints) in
    rw e (omega (arith, ints))
up c x (suc n) l =
    let so = up c x n l in
    let e : (x +ℤ pos (suc n)) ≡ ((x +ℤ pos n) +ℤ pos 1) = omega (arith, ints) in
    let more = times_more c (x +ℤ pos n) in
    rw (e, more) (omega (arith, ints))

down : (c x : ℤ) (n : ℕ) → c <ℤ pos 0 → (c *ℤ (x +ℤ pos n)) ≤ℤ (c *ℤ x)
down c x zero l =
    let e : (x +ℤ pos 0) ≡ x = omega (arith, ints) in
    rw e (omega (arith, ints))
down c x (suc n) l =
    let so = down c x n l in
    let e : (x +ℤ pos (suc n)) ≡ ((x +ℤ pos n) +ℤ pos 1) = omega (arith, ints) in
    let more = times_more c (x +ℤ pos n) in
    rw (e, more) (omega (arith, ints))

gap : (a b : ℤ) → a ≤ℤ b → b ≡ (a +ℤ pos (unsigned_abs (b -ℤ a)))
gap a b l = omega (arith, ints)

rises : (c a b : ℤ) → pos 0 ≤ℤ c → a ≤ℤ b → (c *ℤ a) ≤ℤ (c *ℤ b)
rises c a b l h = subst (λ (x : ℤ). (c *ℤ a) ≤ℤ (c *ℤ x)) (sym (gap a b h)) (up c a (unsigned_abs (b -ℤ a)) l)

falls : (c a b : ℤ) → c <ℤ pos 0 → a ≤ℤ b → (c *ℤ b) ≤ℤ (c *ℤ a)
falls c a b l h = subst (λ (x : ℤ). (c *ℤ x) ≤ℤ (c *ℤ a)) (sym (gap a b h)) (down c a (unsigned_abs (b -ℤ a)) l)

is_below : (c : ℤ) → int_lt c (pos 0) ≡ true → c <ℤ pos 0
is_below c e = omega (arith, ints)

is_not_below : (c : ℤ) → int_lt c (pos 0) ≡ false → pos 0 ≤ℤ c
is_not_below c e = omega (arith, ints)

least_of : (c : ℤ) (range : ℤ × ℤ) (x : ℤ) (b : Bool) → int_lt c (pos 0) ≡ b → InRange range x → (c *ℤ cond b range.1 range.0) ≤ℤ (c *ℤ x)
least_of c range x true e inside = falls c x range.1 (is_below c e) inside.1
least_of c range x false e inside = rises c range.0 x (is_not_below c e) inside.0

greatest_of : (c : ℤ) (range : ℤ × ℤ) (x : ℤ) (b : Bool) → int_lt c (pos 0) ≡ b → InRange range x → (c *ℤ x) ≤ℤ (c *ℤ cond b range.0 range.1)
greatest_of c range x true e inside = falls c range.0 x (is_below c e) inside.0
greatest_of c range x false e inside = rises c x range.1 (is_not_below c e) inside.1

-- Ends lie in their ranges

end_inside : (range : ℤ × ℤ) → IsRange range → (b : Bool) → InRange range (cond b range.1 range.0)
end_inside range r true = let up = r.rising in (up, omega (arith, ints))
end_inside range r false = let up = r.rising in (omega (arith, ints), up)

other_end_inside : (range : ℤ × ℤ) → IsRange range → (b : Bool) → InRange range (cond b range.0 range.1)
other_end_inside range r true = let up = r.rising in (omega (arith, ints), up)
other_end_inside range r false = let up = r.rising in (up, omega (arith, ints))

any_end_inside : (is_greatest : Bool) (c : ℤ) (range : ℤ × ℤ) → IsRange range → InRange range (end_at is_greatest c range)
any_end_inside true c range r = other_end_inside range r (int_lt c (pos 0))
any_end_inside false c range r = end_inside range r (int_lt c (pos 0))

pub corner_inside : (g : Bool) (coefs : List ℤ) (ranges : List (ℤ × ℤ)) → length ranges ≤ length coefs → AreRanges ranges → InBox ranges (corner g coefs ranges)
corner_inside g [] [] few r = tt
corner_inside g [] (range ∷ ranges) few r = absurd (omega arith)
corner_inside g (c ∷ coefs) [] few r = tt
corner_inside g (c ∷ coefs) (range ∷ ranges) few r =
    (any_end_inside g c range (All-head IsRange range ranges r), corner_inside g coefs ranges (omega arith) (All-tail IsRange range ranges r))

-- Sums of multiples

sum_below : (a b c d : ℤ) → a ≤ℤ b → c ≤ℤ d → (a +ℤ c) ≤ℤ (b +ℤ d)
sum_below a b c d l h = omega (arith, ints)

least_dot : (coefs : List ℤ) (ranges : List (ℤ × ℤ)) (point : Point) → InBox ranges point → dot coefs (corner false coefs ranges) ≤ℤ dot coefs point
least_dot [] ranges point inside = omega (arith, ints)
least_dot (c ∷ coefs) [] [] inside = omega (arith, ints)
least_dot (c ∷ coefs) [] (x ∷ point) inside = absurd inside
least_dot (c ∷ coefs) (range ∷ ranges) [] inside = absurd inside
least_dot (c ∷ coefs) (range ∷ ranges) (x ∷ point) inside =
    sum_below (c *ℤ end_at false c range) (c *ℤ x) _ _ (least_of c range x (int_lt c (pos 0)) refl inside.0) (least_dot coefs ranges point inside.1)

greatest_dot : (coefs : List ℤ) (ranges : List (ℤ × ℤ)) (point : Point) → InBox ranges point → dot coefs point ≤ℤ dot coefs (corner true coefs ranges)
greatest_dot [] ranges point inside = omega (arith, ints)
greatest_dot (c ∷ coefs) [] [] inside = omega (arith, ints)
greatest_dot (c ∷ coefs) [] (x ∷ point) inside = absurd inside
greatest_dot (c ∷ coefs) (range ∷ ranges) [] inside = absurd inside
greatest_dot (c ∷ coefs) (range ∷ ranges) (x ∷ point) inside =
    sum_below (c *ℤ x) (c *ℤ end_at true c range) _ _ (greatest_of c range x (int_lt c (pos 0)) refl inside.0) (greatest_dot coefs ranges point inside.1)

-- Forms

pub least_at_corner : (f : Form) (ranges : List (ℤ × ℤ)) → length ranges ≤ length f.coefs → AreRanges ranges → IsLeastIn ranges f (value (corner false f.coefs ranges) f)
least_at_corner f ranges few r = record {
  below = λ point inside. sum_below f.constant f.constant _ _ (omega (arith, ints)) (least_dot f.coefs ranges point inside);
  met = (corner false f.coefs ranges, corner_inside false f.coefs ranges few r, refl);
}

pub greatest_at_corner : (f : Form) (ranges : List (ℤ × ℤ)) → length ranges ≤ length f.coefs → AreRanges ranges → IsGreatestIn ranges f (value (corner true f.coefs ranges) f)
greatest_at_corner f ranges few r = record {
  above = λ point inside. sum_below f.constant f.constant _ _ (omega (arith, ints)) (greatest_dot f.coefs ranges point inside);
  met = (corner true f.coefs ranges, corner_inside true f.coefs ranges few r, refl);
}

-- One range more

pub corner_more : (g : Bool) (i : ℕ) (coefs : List ℤ) (ranges : List (ℤ × ℤ)) (d : ℤ) (d' : ℤ × ℤ) → i < length coefs → i < length ranges
    → corner g coefs (take (i + 1) ranges) ≡ corner g coefs (take i ranges) ++ end_at g (slice_index_or coefs i d) (slice_index_or ranges i d') ∷ []
corner_more g i coefs ranges d d' h h' = rw more (go i coefs ranges h h')
  where
    more : i + 1 ≡ suc i
    more = omega arith

    go : (i : ℕ) (coefs : List ℤ) (ranges : List (ℤ × ℤ)) → i < length coefs → i < length ranges
        → corner g coefs (take (suc i) ranges) ≡ corner g coefs (take i ranges) ++ end_at g (slice_index_or coefs i d) (slice_index_or ranges i d') ∷ []
    go i [] ranges h h' = absurd (omega arith)
    go i (c ∷ coefs) [] h h' = absurd (omega arith)
    go zero (c ∷ []) (range ∷ ranges) h h' = refl
    go zero (c ∷ c' ∷ coefs) (range ∷ ranges) h h' = refl
    go (suc i) (c ∷ coefs) (range ∷ ranges) h h' = ap (λ r. end_at g c range ∷ r) (go i coefs ranges (omega arith) (omega arith))

pub corner_nowhere : (g : Bool) (coefs : List ℤ) → corner g coefs [] ≡ []
corner_nowhere g [] = refl
corner_nowhere g (c ∷ coefs) = refl

pub length-corner : (g : Bool) (coefs : List ℤ) (ranges : List (ℤ × ℤ)) → length ranges ≤ length coefs → length (corner g coefs ranges) ≡ length ranges
length-corner g [] [] few = refl
length-corner g [] (range ∷ ranges) few = absurd (omega arith)
length-corner g (c ∷ coefs) [] few = refl
length-corner g (c ∷ coefs) (range ∷ ranges) few = ap (λ n. suc n) (length-corner g coefs ranges (omega arith))
