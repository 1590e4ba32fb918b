-- Guards that hold at the same points of a box.
use Rattle.std.proofs.Common.{◌≡◌, ◌<◌, ◌+◌, ℕ, List, [], ◌∷◌, ◌++◌, length, take, get_or, Some, refl, ap, sym, ◌∙◌, subst}
use Rattle.std.specs.Prelude.{ℤ, pos}
use Rattle.std.proofs.lemmas.Int.{by_lt_z}
use Rattle.std.proofs.lemmas.List.{take_more}
use Rattle.std.proofs.lemmas.List.Elements.{All-pop, All-push, All-weaker}
use Rattle.burr_forms.specs.Rules.Forms.{Form, Point, value}
use Rattle.burr_forms.specs.Rules.Points.{GuardsHold, IsPointOf, AreRanges, points_of}
use Rattle.burr_forms.specs.Rules.Conditions.{region, Throughout, FailsFirstAt}
use Rattle.burr_forms.specs.Views.Counting.{searched, Counted}
use Rattle.burr_forms.specs.Views.Searching.{IsNegativeIn, HoldAlike}
use Rattle.burr_forms.proofs.Listing.{the_points_are_given}
use Rattle.burr_forms.proofs.OneListing.{one_list_of_points}
use Rattle.burr_forms.proofs.Search.{IsHeld}

-- One guard more

module _ (ranges : List (ℤ × ℤ)) (guards others : List Form) (i : ℕ) (g : Form) (l : i < length guards) (is : g ≡ get_or guards i g)
    (alike : HoldAlike ranges (take i guards) others) where
  more : take (i + 1) guards ≡ take i guards ++ g ∷ []
  more = take_more guards i g l ∙ ap (λ (h : Form). take i guards ++ h ∷ []) (sym is)

  parts : (point : Point) (forms : List Form) → GuardsHold (forms ++ g ∷ []) point → GuardsHold forms point × IsHeld point g
  parts point forms h = All-pop (IsHeld point) (forms ++ g ∷ []) forms (Some g) refl h

  pub alike_kept : HoldAlike ranges (take (i + 1) guards) (others ++ g ∷ [])
  alike_kept point inside = rw more (
    λ h. let p = parts point (take i guards) h in All-push (IsHeld point) others g ((alike point inside).0 p.0) p.1,
    λ h. let p = parts point others h in All-push (IsHeld point) (take i guards) g ((alike point inside).1 p.0) p.1,
  )

  pub alike_left_out : (¬ IsNegativeIn ranges g) → HoldAlike ranges (take (i + 1) guards) others
  alike_left_out never point inside = rw more (
    λ h. (alike point inside).0 (parts point (take i guards) h).0,
    λ h. All-push (IsHeld point) (take i guards) g ((alike point inside).1 h)
        (by_lt_z (value point g) (pos 0) (λ below. absurd (never (point, inside, below))) (λ held. held)),
  )

-- A search under the others is one under the guards.

module _ (ranges : List (ℤ × ℤ)) (guards others : List Form) (alike : HoldAlike ranges guards others) where
  of_others : (point : Point) → IsPointOf ranges guards point → IsPointOf ranges others point
  of_others point b = (b.0, (alike point b.0).0 b.1)

  of_guards : (point : Point) → IsPointOf ranges others point → IsPointOf ranges guards point
  of_guards point b = (b.0, (alike point b.0).1 b.1)

  pub throughout_others : (P : Point → Type 0) → Throughout (region ranges guards) P → Throughout (region ranges others) P
  throughout_others P all point b = all point (of_guards point b)

  pub throughout_guards : (P : Point → Type 0) → Throughout (region ranges others) P → Throughout (region ranges guards) P
  throughout_guards P all point b = all point (of_others point b)

  pub fails_alike : (P : Point → Type 0) (point : Point) → FailsFirstAt (region ranges others) P point → FailsFirstAt (region ranges guards) P point
  fails_alike P point f = record {
    is_point = of_guards point f.is_point;
    fails = f.fails;
    before = λ q b earlier. f.before q (of_others q b) earlier;
  }

  same_points : AreRanges ranges → points_of ranges others ≡ points_of ranges guards
  same_points r =
      let given = the_points_are_given ranges others r in
      one_list_of_points ranges guards (points_of ranges others) (points_of ranges guards)
      (record {
        inside = All-weaker (IsPointOf ranges others) (IsPointOf ranges guards) of_guards (points_of ranges others) given.inside;
        each = λ point b. given.each point (of_others point b);
        rising = given.rising;
      }) (the_points_are_given ranges guards r)

  pub counted_alike : (Holds : Point → Type 0) (Looks : Point → ℕ → Type 0) (start now : ℕ) → AreRanges ranges
      → Counted (region ranges others) Holds Looks start now → Counted (region ranges guards) Holds Looks start now
  counted_alike Holds Looks start now r counted =
      (counted.0, subst (λ (points : List Point). searched Holds Looks points counted.0) (same_points r) counted.1, counted.2)
