-- Worked plans: a plan of no pieces that halts, and rows that the pass refuses.
use Rattle.std.proofs.Common.{◌≡◌, ℕ, zero, suc, ◌<◌, ◌≤◌, ℤ, List, [], ◌∷◌, Some, None, refl, sym, ap, subst, inl, inr, arith, lit≤}
use Rattle.std.specs.Prelude.{pos, ◌≤ℤ◌, replicate, slice_get}
use Rattle.std.proofs.lemmas.Int.{ints}
use Rattle.std.proofs.lemmas.Option.{none-some, same_Some}
use Rattle.std.proofs.lemmas.List.Elements.{All-nil, All-cons}
use Rattle.burr_code.specs.Instruction.{Halt, Grip, StandsAt}
use Rattle.burr_code.proofs.Common.PieceSets.{no_bit_from_set}
use Rattle.burr_forms.specs.Rules.Forms.{value, number, IsSmall, AllSmall, one_less, IsSmallForm}
use Rattle.burr_forms.specs.Rules.Points.{Precedes, box_size}
use Rattle.burr_container.specs.Rules.Plans.{Frame}
use Rattle.burr_frames.specs.declared.rule.Rule.TheVariants as rules
use Rattle.burr_frames.specs.Rules.FramedPlans.{FramedProcedure, FramedPlan}
use Rattle.burr_frames.specs.Rules.States.{IsPoint, live_ranges, state_of}
use Rattle.burr_frames.specs.Rules.Arrival.{Meets}
use Rattle.burr_frames.specs.Rules.Starts.{start_state}
use Rattle.burr_verify.specs.Rules.WellFramed.{IsLabelled, IsFormed, IsFormedEntry, IsFramedProcedure, IsWellFramed}
use Rattle.burr_verify.specs.Rules.Pass.{Passed, refused, broken, pass_start, Hides, Pass, ends, resumes, hides, breaks, stops}
use Rattle.burr_verify.specs.Rules.Judging.{Judging}
use Rattle.burr_verify.proofs.PassCuts.{cut_of_pass}
use Rattle.burr_verify.proofs.VerifyLaws.{passed_where_framed}

-- a frame that knows nothing, with this cost
abbrev frame : ℤ → Frame
frame cost = record {
  tray = 0;
  grip = 0;
  slots = replicate 8 None;
  guards = [];
  stack = [];
  cost = number cost;
  places = [];
}

abbrev main : ℤ → List (ℕ × Frame) → List ℕ → FramedProcedure
main cost more code = record { parameters = 0; results = 0; exit = None; labels = (0, frame cost) ∷ more; code = code }

abbrev plan : ℤ → FramedPlan
plan cost = record { name = 97 ∷ []; pieces = 0; budget = 1; procedures = main cost [] (0x00 ∷ []) ∷ [] }

zero_small : IsSmall (pos 0)
zero_small = (omega (arith, ints), omega (arith, ints))

zeros_small : (n : ℕ) → AllSmall (replicate n (pos 0))
zeros_small zero = All-nil IsSmall
zeros_small (suc n) = All-cons IsSmall (pos 0) (replicate n (pos 0)) zero_small (zeros_small n)

paid_small : IsSmallForm (one_less (number (pos 1)))
paid_small = (zero_small, zeros_small 8)

none_live : (n v : ℕ) (range : ℤ × ℤ) → ¬ (slice_get (replicate n None) v ≡ Some (Some range))
none_live zero v range e = none-some _ e
none_live (suc n) zero range e = none-some _ (same_Some _ _ e)
none_live (suc n) (suc v) range e = none_live n v range e

halts : (code : List ℕ) → StandsAt (0x00 ∷ code) 0 Halt
halts code = record { in_range = tt; begins = (code, refl) }

only_label : (cost : ℤ) (code : List ℕ) (pc : ℕ) (f : Frame) → IsLabelled (main cost [] code) pc f
    → (pc ≡ 0) × (f ≡ frame cost)
only_label cost code pc f (zero, e) =
    (ap (λ (l : ℕ × Frame). l.0) (sym (same_Some _ _ e)), ap (λ (l : ℕ × Frame). l.1) (sym (same_Some _ _ e)))
only_label cost code pc f (suc k, e) = absurd (none-some _ e)

none_inside : (cost : ℤ) (code : List ℕ) → ¬ Hides (main cost [] code) 0 Halt
none_inside cost code (p, f, labelled, above, below) = let at = (only_label cost code p f labelled).0 in omega arith

-- The plan that halts passes with cost 1,
halt_passes : Pass [] (plan (pos 1)) 0 (main (pos 1) [] (0x00 ∷ [])) pass_start Passed
halt_passes =
    resumes 0 0 (frame (pos 1)) Passed (λ e. one_zero e) (0, refl)
    (stops 0 (state_of (frame (pos 1))) Halt Passed (halts []) (none_inside (pos 1) (0x00 ∷ []))
    (inr (refl, inr ((λ p place e. absurd (none-some _ e)), inr (paid_small, inr ((λ point is. paid point is), refl)))))
    (ends 0 1 refl))
  where
    one_zero : zero ≡ 1 → ⊥
    one_zero e = omega arith

    paid : (point : List ℤ) → IsPoint (state_of (frame (pos 1))) point
        → pos 0 ≤ℤ value point (one_less (number (pos 1)))
    paid [] is = omega (arith, ints)
    paid (x ∷ point) is = absurd is.0

-- and with cost 0 the cost is too low, at the one point there is.
halt_refused : Pass [] (plan (pos 0)) 0 (main (pos 0) [] (0x00 ∷ [])) pass_start
    (broken 0 0 (record { rule = rules.CostTooLow; pieces = None; point = Some [] }))
halt_refused =
    resumes 0 0 (frame (pos 0)) _ (λ e. one_zero e) (0, refl)
    (breaks 0 (state_of (frame (pos 0))) Halt _ (halts []) (none_inside (pos 0) (0x00 ∷ []))
    (inr (
      refl,
      inr (
        (λ p place e. absurd (none-some _ e)),
        inr (
          below_small,
          inl (
            [],
            record { is_point = (tt, All-nil _); fails = λ le. too_low le; before = first },
            refl,
          ),
        ),
      ),
    )))
  where
    one_zero : zero ≡ 1 → ⊥
    one_zero e = omega arith

    below_small : IsSmallForm (one_less (number (pos 0)))
    below_small = ((omega (arith, ints), omega (arith, ints)), zeros_small 8)

    too_low : pos 0 ≤ℤ value [] (one_less (number (pos 0))) → ⊥
    too_low le = omega (arith, ints, le)

    first : (q : List ℤ) → IsPoint (state_of (frame (pos 0))) q → Precedes q []
        → pos 0 ≤ℤ value q (one_less (number (pos 0)))
    first [] is before = absurd before
    first (x ∷ q) is before = absurd before

-- A label inside the first instruction: its bytes make an instruction too, and yet it is refused.
label_inside : Pass [] (plan (pos 1)) 0 (main (pos 1) ((1, frame (pos 1)) ∷ [])
    (0x10 ∷ 0x00 ∷ 0x00 ∷ 0x00 ∷ 0x01 ∷ 0x00 ∷ [])) pass_start (refused 0 0 rules.BadLabel)
label_inside =
    resumes 0 0 (frame (pos 1)) _ (λ e. six_zero e) (0, refl)
    (hides 0 (state_of (frame (pos 1))) (Grip 1)
    (record { in_range = ((λ e. six_zero' e), lit≤ tt); begins = (0x00 ∷ [], refl) })
    (1, frame (pos 1), (1, refl), lit≤ tt, lit≤ tt))
  where
    six_zero : zero ≡ 6 → ⊥
    six_zero e = omega arith

    six_zero' : 1 ≡ zero → ⊥
    six_zero' e = omega arith

framed_main : IsFramedProcedure [] (plan (pos 1)) 0 (main (pos 1) [] (0x00 ∷ []))
framed_main = record {
  exit = λ f e. absurd (none-some _ e);
  entry =
      λ f e. subst (λ (g : Frame). IsFormedEntry 0 g) (same_Some _ _ e)
      (record { alone = λ v from range is. none_live 8 v range is; bare = refl });
  frames =
      λ pc f labelled. subst (λ (g : Frame). IsFormed 0 g × (box_size (live_ranges g.slots) ≤ 4096))
      (sym (only_label (pos 1) (0x00 ∷ []) pc f labelled).1) (
        (record {
          live = λ v below. absurd (none_below v below);
          gripped = λ p bit. absurd (no_bit_from_set 0 p (from_zero p) bit);
          trays = λ tray e. zero_one e;
        }),
        lit≤ tt,
      );
  cut =
      cut_of_pass [] (plan (pos 1)) 0 (main (pos 1) [] (0x00 ∷ []))
      (record {
        rising = λ j k a b below first second. absurd (one_label j k a b below first second);
        within = λ pc f labelled. (let at = (only_label (pos 1) (0x00 ∷ []) pc f labelled).0 in omega arith);
      })
      halt_passes;
}
  where
    none_below : (v : ℕ) → v < 0 → ⊥
    none_below v below = omega arith

    from_zero : (p : ℕ) → 0 ≤ p
    from_zero p = omega arith

    zero_one : zero ≡ 1 → ⊥
    zero_one e = omega arith

    one_label : (j k : ℕ) (a b : ℕ × Frame) → j < k → slice_get ((0, frame (pos 1)) ∷ []) j ≡ Some a
        → slice_get ((0, frame (pos 1)) ∷ []) k ≡ Some b → ⊥
    one_label j zero a b below first second = none_below j below
    one_label j (suc k) a b below first second = none-some _ second

-- The plan that halts is well framed.
pub halt_framed : IsWellFramed (97 ∷ []) [] (plan (pos 1))
halt_framed = record {
  same_name = refl;
  same_count = refl;
  each = each;
  start = record {
    main = main (pos 1) [] (0x00 ∷ []);
    frame = frame (pos 1);
    is_main = refl;
    is_entry = refl;
    meets = met;
    cost = omega (arith, ints);
  };
}
  where
    each : (n : ℕ) (here : FramedProcedure) → slice_get (plan (pos 1)).procedures n ≡ Some here
        → IsFramedProcedure [] (plan (pos 1)) n here
    each zero here e =
        subst (λ (p : FramedProcedure). IsFramedProcedure [] (plan (pos 1)) 0 p) (same_Some _ _ e) framed_main
    each (suc n) here e = absurd (none-some _ e)

    met : Meets (start_state []) (frame (pos 1))
    met = record {
      forms = [];
      known = refl;
      alike = record { tray = refl; grip = refl; operands = refl; trays = refl };
      agrees = λ point is. record { is_point = (tt, All-nil _); operands = refl; places = refl };
    }

pub halt_judged : Judging (97 ∷ []) [] (plan (pos 1)) Passed
halt_judged = passed_where_framed (97 ∷ []) [] (plan (pos 1)) halt_framed
