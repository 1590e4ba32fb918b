-- A plan that takes two cubes apart: it is well framed, and so its runs are safe.
use Rattle.std.proofs.Common.{◌≡◌, ℕ, zero, suc, ◌+◌, ◌<◌, ◌≤◌, ℤ, List, [], ◌∷◌, length, Some, None, Bool, true, false, refl, sym, ap, subst, ◌∙◌, inr, arith, lit≤, Contains}
use Rattle.std.specs.Prelude.{pos, ◌≤ℤ◌, replicate, slice_get, if◌then◌else◌, ◌==◌}
use Rattle.std.proofs.lemmas.Int.{ints}
use Rattle.std.proofs.lemmas.List.Elements.{All-nil, All-cons}
use Rattle.std.proofs.lemmas.Option.{none-some, same_Some}
use Rattle.burr_text.specs.Checks.{needs}
use Rattle.burr_voxels.specs.declared.cell.Cell.{Cell}
use Rattle.burr_voxels.specs.declared.direction.Direction.TheVariants.{MinusX}
use Rattle.burr_voxels.specs.Grid.{at, origin}
use Rattle.burr_voxels.specs.CellSets.{Overlap}
use Rattle.burr_code.specs.declared.placement.Placement.{Placement}
use Rattle.burr_code.specs.declared.placement.Placement.TheVariants.{Apart, On}
use Rattle.burr_code.specs.Places.{LiesAt, AllLieIn, AllApart, IsEmptyTray, count_in}
use Rattle.burr_code.specs.Instruction.{Grip, Aside, Halt, StandsAt}
use Rattle.burr_code.proofs.Common.PieceSets.{no_bit, no_bit_from_set}
use Rattle.burr_forms.specs.Rules.Forms.{Form, Point, number, value, one_less, IsSmall, AllSmall, IsSmallForm}
use Rattle.burr_forms.specs.Rules.Points.{IsPointOf, box_size}
use Rattle.burr_container.specs.Rules.Plans.{FormCell, Range, Frame}
use Rattle.burr_frames.specs.declared.rule.Rule.{Rule}
use Rattle.burr_frames.specs.declared.rule.Rule.TheVariants as rules
use Rattle.burr_frames.specs.Rules.FramedPlans.{FramedProcedure, FramedPlan}
use Rattle.burr_frames.specs.Rules.States.{AbstractState, state_of, cell_at, live_ranges}
use Rattle.burr_frames.specs.Rules.Arrival.{Agrees}
use Rattle.burr_frames.specs.Rules.Verdicts.{Verdict, FallsThrough, NoSuccessor, everywhere, plainly}
use Rattle.burr_frames.specs.Rules.SpaceRules.{GoesFree, OnBenchAt, PairAt}
use Rattle.burr_frames.specs.Rules.Transfer.{Transfer}
use Rattle.burr_frames.specs.Views.Over.{IsWellScoped, IsWellScopedFrame}
use Rattle.burr_frames.specs.Rules.Starts.{home_position, start_state}
use Rattle.burr_verify.specs.Rules.WellFramed.{Annotated, IsLabelled, HasNoLabel, IsCut, IsFormed, IsFormedEntry, IsFramedProcedure, IsWellFramed}
use Rattle.burr_verify.specs.Rules.Pass.{IsLaidOut}
use Rattle.burr_verify.specs.Views.FromContainers.{IsFromContainer}
use Rattle.burr_state.specs.Laws.SpaceLaws.{AreDisjoint}
use Rattle.burr_bench.specs.Soundness.Laws.{RunsSafely, HasRuns}
use Rattle.burr_state.proofs.Common.TwoCubes.{homes, both_here, one_some, b_is_not, tray_is_free, a_is_on_bench, group_is_free}
use Rattle.burr_frames.proofs.Common.Over.{over_number}
use Rattle.burr_bench.proofs.Soundness.Mapped.{lies_at_map}
use Rattle.burr_bench.proofs.Soundness.Sound.{verifier_is_sound, accepted_has_runs}

-- The plan: grip A, aside -x 1, halt

abbrev both : List (Placement FormCell)
both = On 0 home_position ∷ On 0 home_position ∷ []

abbrev frame : Frame
frame = record {
  tray = 0;
  grip = 0;
  slots = replicate 8 None;
  guards = [];
  stack = [];
  cost = number (pos 3);
  places = both;
}

abbrev bytes : List ℕ
bytes = 0x10 ∷ 0x00 ∷ 0x00 ∷ 0x00 ∷ 0x01 ∷ 0x12 ∷ 0x01 ∷ 0x01 ∷ 0x00 ∷ []

abbrev main : FramedProcedure
main = record { parameters = 0; results = 0; exit = None; labels = (0, frame) ∷ []; code = bytes }

abbrev plan : FramedPlan
plan = record { name = 97 ∷ []; pieces = 2; budget = 3; procedures = main ∷ [] }

-- The rules of its instructions

abbrev gripped : AbstractState
gripped = record (state_of frame) { grip = 1; cost = number (pos 2) }

abbrev parted : AbstractState
parted = record gripped { grip = 0; places = Apart ∷ Apart ∷ []; cost = number (pos 1) }

zeros_small : (n : ℕ) → AllSmall (replicate n (pos 0))
zeros_small zero = All-nil IsSmall
zeros_small (suc n) = All-cons IsSmall (pos 0) (replicate n (pos 0)) (omega (arith, ints), omega (arith, ints)) (zeros_small n)

-- what has no symbol has one point
at_one_point : (P : Point → Type 0) → P [] → (point : Point) → IsPointOf [] [] point → P point
at_one_point P p [] is = p
at_one_point P p (x ∷ point) is = absurd is.0

-- a step is paid for with a cost of 1 to 3
paid_so : {rule : Rule} {Q : Type 0} {v : Verdict} (s : AbstractState) (c : ℤ) → pos 1 ≤ℤ c → c ≤ℤ pos 3 → Q
    → needs (IsSmallForm (one_less (number c))) (plainly rules.FormTooLarge)
    (everywhere (record s { ranges = []; guards = [] }) (λ point. pos 0 ≤ℤ value point (one_less (number c))) rule (λ _. Q)) v
paid_so s c least most q =
    inr (
      ((omega (arith, ints), omega (arith, ints)), zeros_small 8),
      inr (at_one_point (λ (point : Point). pos 0 ≤ℤ value point (one_less (number c))) (omega (arith, ints)), q),
    )

lie : AllLieIn both 0 1
lie zero bit = (home_position, refl)
lie (suc p) bit = absurd (no_bit_from_set 1 (suc p) (omega arith) bit)

grip_falls : Transfer homes plan 0 main (state_of frame) (Grip 1) (FallsThrough gripped)
grip_falls = inr (lie, paid_so (state_of frame) (pos 3) (omega (arith, ints)) (omega (arith, ints)) refl)

-- what lies in the frame lies there as numbers
lies_home : (p tray : ℕ) (c : FormCell) → LiesAt both p tray c → LiesAt both_here p tray (cell_at [] c)
lies_home p tray c lies = lies_at_map (cell_at []) both p tray c lies

empty : IsEmptyTray both 1
empty p lies = tray_is_free p (cell_at [] lies.0, lies_home p 1 lies.0 lies.1)

on_bench : OnBenchAt both 0 []
on_bench p c lies = a_is_on_bench (pos 0) (omega (arith, ints)) (omega (arith, ints)) p (cell_at [] c) (lies_home p 0 c lies)

pairs : (r t : ℕ) → PairAt (GoesFree MinusX) homes both 0 1 [] r t
pairs r t p_home q_home c d inside outside p_has q_has p_lies q_lies =
    group_is_free r t p_home q_home (cell_at [] c) (cell_at [] d) inside outside p_has q_has
    (lies_home r 0 c p_lies) (lies_home t 0 d q_lies)

aside_falls : Transfer homes plan 0 main gripped (Aside MinusX 1) (FallsThrough parted)
aside_falls =
    inr (
      (one_some, 1, (home_position, refl), b_is_not),
      inr (
        empty,
        inr (
          at_one_point (OnBenchAt both 0) on_bench,
          inr (
            at_one_point (λ (point : Point). (r t : ℕ) → PairAt (GoesFree MinusX) homes both 0 1 point r t) pairs,
            paid_so gripped (pos 2) (omega (arith, ints)) (omega (arith, ints)) refl,
          ),
        ),
      ),
    )

apart : AllApart {Position = FormCell} (Apart ∷ Apart ∷ [])
apart zero place e = sym (same_Some _ _ e)
apart (suc zero) place e = sym (same_Some _ _ e)
apart (suc (suc p)) place e = absurd (none-some _ e)

halt_leaves : Transfer homes plan 0 main parted Halt NoSuccessor
halt_leaves = inr (refl, inr (apart, paid_so parted (pos 1) (omega (arith, ints)) (omega (arith, ints)) refl))

-- Its cut

only_label : (pc : ℕ) (f : Frame) → IsLabelled main pc f → (pc ≡ 0) × (frame ≡ f)
only_label pc f (zero, e) = (
  ap (λ (l : ℕ × Frame). l.0) (sym (same_Some _ _ e)),
  ap (λ (l : ℕ × Frame). l.1) (same_Some _ _ e),
)
only_label pc f (suc k, e) = absurd (none-some _ e)

none_after : (pc : ℕ) → 0 < pc → HasNoLabel main pc
none_after pc after f labelled = let e = (only_label pc f labelled).0 in absurd (omega arith)

grip_stands : StandsAt bytes 0 (Grip 1)
grip_stands = record {
  in_range = (one_some, lit≤ tt);
  begins = (0x12 ∷ 0x01 ∷ 0x01 ∷ 0x00 ∷ [], refl);
}

aside_stands : StandsAt bytes 5 (Aside MinusX 1)
aside_stands = record { in_range = lit≤ tt; begins = (0x00 ∷ [], refl) }

halt_stands : StandsAt bytes 8 Halt
halt_stands = record { in_range = tt; begins = ([], refl) }

abbrev rows : List Annotated
rows = record { pc = 0; instruction = Grip 1; state = state_of frame }
    ∷ record { pc = 5; instruction = Aside MinusX 1; state = gripped }
    ∷ record { pc = 8; instruction = Halt; state = parted }
    ∷ []

cut : IsCut homes plan 0 main rows
cut = record {
  passes = (
    refl,
    grip_stands,
    (frame, (0, refl), refl),
    FallsThrough gripped,
    Some gripped,
    grip_falls,
    refl,
    (
      refl,
      aside_stands,
      inr (none_after 5 (lit≤ tt), refl),
      FallsThrough parted,
      Some parted,
      aside_falls,
      refl,
      (
        refl,
        halt_stands,
        inr (none_after 8 (lit≤ tt), refl),
        NoSuccessor,
        None,
        halt_leaves,
        refl,
        (refl, refl),
      ),
    ),
  );
  labels = λ pc f labelled. let is = only_label pc f labelled in (0, _, refl, sym is.0, ap state_of is.1);
}

-- It is well framed

none_lone : (tray : ℕ) → ¬ (count_in tray both ≡ 1)
none_lone tray = by_test (0 == tray)
  where
    by_test : (b : Bool) → ¬ ((if b then 1 else 0) + ((if b then 1 else 0) + 0) ≡ 1)
    by_test true e = omega (arith, e)
    by_test false e = omega (arith, e)

none_live : (n v : ℕ) (range : Range) → ¬ (slice_get (replicate n None) v ≡ Some (Some range))
none_live zero v range e = none-some _ e
none_live (suc n) zero range e = none-some _ (same_Some _ _ e)
none_live (suc n) (suc v) range e = none_live n v range e

framed_main : IsFramedProcedure homes plan 0 main
framed_main = record {
  exit = λ f e. absurd (none-some _ e);
  entry =
      λ f e. subst (λ (g : Frame). IsFormedEntry 0 g) (same_Some _ _ e)
      (record { alone = λ v from range is. none_live 8 v range is; bare = refl });
  frames =
      λ pc f labelled. subst (λ (g : Frame). IsFormed 0 g × (box_size (live_ranges g.slots) ≤ 4096))
      (only_label pc f labelled).1 (
        (record {
          live = λ v below. absurd (omega arith);
          gripped = λ p bit. absurd (no_bit p bit);
          trays = none_lone;
        }),
        lit≤ tt,
      );
  cut = (rows, cut);
}

-- what holds of the one procedure holds of each
of_main : (P : ℕ → FramedProcedure → Type 0) → P 0 main → (n : ℕ) (here : FramedProcedure)
    → slice_get plan.procedures n ≡ Some here → P n here
of_main P p zero here e = subst (P 0) (same_Some _ _ e) p
of_main P p (suc n) here e = absurd (none-some _ e)

pub framed : IsWellFramed (97 ∷ []) homes plan
framed = record {
  same_name = refl;
  same_count = refl;
  each = of_main (λ n here. IsFramedProcedure homes plan n here) framed_main;
  start = record {
    main = main;
    frame = frame;
    is_main = refl;
    is_entry = refl;
    meets = record {
      forms = [];
      known = refl;
      alike = record { tray = refl; grip = refl; operands = refl; trays = refl };
      agrees = at_one_point (λ (point : Point). Agrees (start_state homes) point (state_of frame) []) (record {
        is_point = (tt, All-nil (λ (f : Form). pos 0 ≤ℤ value [] f));
        operands = refl;
        places = refl;
      });
    };
    cost = omega (arith, ints);
  };
}

-- It is as containers promise

laid : IsLaidOut main
laid = record {
  rising = λ j k a b below first second. absurd (one_label j k a b below first second);
  within = λ pc f labelled. let e = (only_label pc f labelled).0 in omega arith;
}
  where
    one_label : (j k : ℕ) (a b : ℕ × Frame) → j < k → slice_get main.labels j ≡ Some a
        → slice_get main.labels k ≡ Some b → ⊥
    one_label j zero a b below first second = absurd (omega arith)
    one_label j (suc k) a b below first second = none-some _ second

own : IsWellScopedFrame frame
own = record {
  guards = tt;
  stack = tt;
  places = (zeros, zeros, zeros, (zeros, zeros, zeros, tt));
  cost = over_number 0 (pos 3);
}
  where
    zeros : IsWellScoped 0 (number (pos 0))
    zeros = over_number 0 (pos 0)

pub given : IsFromContainer plan
given = record {
  laid_out = of_main (λ n p. IsLaidOut p) laid;
  first = λ n here label is. of_main (λ n p. slice_get p.labels 0 ≡ Some label → label.0 ≡ 0)
      (λ e. ap (λ (l : ℕ × Frame). l.0) (sym (same_Some _ _ e))) n here is;
  eight = of_main (λ n p. (pc : ℕ) (f : Frame) → IsLabelled p pc f → length f.slots ≡ 8)
      (λ pc f l. subst (λ (g : Frame). length g.slots ≡ 8) (only_label pc f l).1 refl);
  own = of_main (λ n p. (pc : ℕ) (f : Frame) → IsLabelled p pc f → IsWellScopedFrame f)
      (λ pc f l. subst (λ (g : Frame). IsWellScopedFrame g) (only_label pc f l).1 own);
  main = λ here is. of_main (λ n p. p.exit ≡ None) refl 0 here is;
  budget = lit≤ tt;
}

-- Its pieces do not overlap

one_cell : (c d : Cell) → Contains (c ∷ []) d → c ≡ d
one_cell c d (zero, below, is) = is
one_cell c d (suc k, below, is) = absurd (omega arith)

not_on : (a b : Cell) (p_home q_home : List Cell) → a ∷ [] ≡ p_home → b ∷ [] ≡ q_home → ¬ (a.x ≡ b.x)
    → ¬ Overlap p_home q_home
not_on a b p_home q_home p_is q_is other over =
    other (ap (λ (c : Cell). c.x) (one_cell a over.0 (subst (λ (cells : List Cell). Contains cells over.0) (sym p_is) over.1)
    ∙ sym (one_cell b over.0 (subst (λ (cells : List Cell). Contains cells over.0) (sym q_is) over.2))))

pub disjoint : AreDisjoint homes
disjoint zero zero p_home q_home other p_has q_has over = other refl
disjoint zero (suc zero) p_home q_home other p_has q_has over =
    not_on origin (at (pos 1) (pos 0) (pos 0)) p_home q_home (same_Some _ _ p_has)
    (same_Some _ _ q_has) (λ e. omega (arith, ints, e)) over
disjoint (suc zero) zero p_home q_home other p_has q_has over =
    not_on (at (pos 1) (pos 0) (pos 0)) origin p_home q_home (same_Some _ _ p_has)
    (same_Some _ _ q_has) (λ e. omega (arith, ints, e)) over
disjoint (suc zero) (suc zero) p_home q_home other p_has q_has over = other refl
disjoint (suc (suc p)) q p_home q_home other p_has q_has over = none-some _ p_has
disjoint p (suc (suc q)) p_home q_home other p_has q_has over = none-some _ q_has

-- Each run of this plan is safe, and there is one.
pub two_cells_run_safely : RunsSafely homes plan
two_cells_run_safely =
    verifier_is_sound (97 ∷ []) homes plan given framed disjoint (lit≤ tt) (lit≤ tt)

pub two_cells_have_runs : HasRuns homes plan
two_cells_have_runs =
    accepted_has_runs (97 ∷ []) homes plan given framed disjoint (lit≤ tt) (lit≤ tt)
