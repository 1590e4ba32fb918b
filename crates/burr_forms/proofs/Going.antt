-- An iterator of points goes on by one.
use Rattle.std.proofs.Common.{◌≡◌, ℕ, suc, ◌<◌, Bool, true, false, cond, List, ◌∷◌, Some, None, ap, sym, subst, ◌∙◌, arith}
use Rattle.std.specs.Prelude.{ℤ, filter, Option, is_some, not, MatchBool, MatchOption}
use Rattle.std.proofs.lemmas.Bool.{true≢false}
use Rattle.burr_forms.specs.Rules.Forms.{Form, Point}
use Rattle.burr_forms.specs.Rules.Points.{InBox, AreRanges, guards_hold}
use Rattle.burr_forms.specs.Views.Rising.{following, from_next, left, count_after}
use Rattle.burr_forms.specs.Views.Searching.{IsRaised}
use Rattle.burr_forms.proofs.Boxes.{length_inside}
use Rattle.burr_forms.proofs.Remaining.{from_first}
use Rattle.burr_forms.proofs.Orders.{follows_next}

-- One point further

abbrev Advances : List (ℤ × ℤ) → Point → Point → Bool → Type 0
Advances ranges old new ended = MatchBool ended (following ranges old ≡ None) (following ranges old ≡ Some new)

pub record IsStep (ranges : List (ℤ × ℤ)) (old new : Point) (ended : Bool) : Type 0 where
  pub are : AreRanges ranges
  pub inside : InBox ranges old
  pub advances : Advances ranges old new ended

pub stepped : (given ranges : List (ℤ × ℤ)) (old new : Point) (found : Option ℕ) (ended : Bool) → given ≡ ranges → AreRanges given
    → InBox ranges old → is_some found ≡ not ended → MatchOption found (following given old ≡ None) (IsRaised given old new)
    → IsStep ranges old new ended
stepped given ranges old new found ended same are inside is goes = record {
  are = subst AreRanges same are;
  inside = inside;
  advances = subst (λ (rs : List (ℤ × ℤ)). Advances rs old new ended) same (by_case found ended is goes);
}
  where
    by_case : (found : Option ℕ) (ended : Bool) → is_some found ≡ not ended
        → MatchOption found (following given old ≡ None) (IsRaised given old new) → Advances given old new ended
    by_case (Some symbol) true e up = absurd (true≢false e)
    by_case (Some symbol) false e up = up.follows
    by_case None true e up = up
    by_case None false e up = absurd (true≢false (sym e))

module _ (ranges : List (ℤ × ℤ)) (guards : List Form) (old new : Point) where
  kept : (ended : Bool) → Advances ranges old new ended
      → filter (guards_hold guards) (from_next ranges (following ranges old)) ≡ left ranges guards new ended
  kept true e = ap (λ n. filter (guards_hold guards) (from_next ranges n)) e
  kept false e = ap (λ n. filter (guards_hold guards) (from_next ranges n)) e

  after : (h : Bool) → InBox ranges old → guards_hold guards old ≡ h
      → left ranges guards old false
      ≡ cond h (old ∷ filter (guards_hold guards) (from_next ranges (following ranges old)))
      (filter (guards_hold guards) (from_next ranges (following ranges old)))
  after h b e =
      ap (λ r. filter (guards_hold guards) r) (from_first ranges old (length_inside ranges old b))
      ∙ ap (λ g. cond g (old ∷ filter (guards_hold guards) (from_next ranges (following ranges old)))
      (filter (guards_hold guards) (from_next ranges (following ranges old)))) e

  module _ (ended : Bool) (s : IsStep ranges old new ended) where
    -- a point at which the guards hold is the first that is left
    pub given : guards_hold guards old ≡ true → left ranges guards old false ≡ old ∷ left ranges guards new ended
    given h = after true s.inside h ∙ ap (λ r. old ∷ r) (kept ended s.advances)

    -- one at which they do not is passed over
    pub passed : guards_hold guards old ≡ false → left ranges guards old false ≡ left ranges guards new ended
    passed h = after false s.inside h ∙ kept ended s.advances

pub inside_next : (ranges : List (ℤ × ℤ)) (old new : Point) (ended : Bool) → IsStep ranges old new ended → ended ≡ false → InBox ranges new
inside_next ranges old new true s h = absurd (true≢false h)
inside_next ranges old new false s h = (follows_next ranges old new s.are s.inside s.advances).inside

pub fewer : (ranges : List (ℤ × ℤ)) (old new : Point) (ended : Bool) → IsStep ranges old new ended
    → cond ended 0 (suc (count_after ranges new)) < suc (count_after ranges old)
fewer ranges old new true s = omega arith
fewer ranges old new false s = let n = (follows_next ranges old new s.are s.inside s.advances).count in omega arith
