-- For crates above: in which trays pieces lie along each run, and which motions they make.
use Rattle.std.proofs.Common.{◌≡◌, ◌≢◌, ℕ, zero, suc, ◌+◌, ◌/◌, ◌^◌, ◌<◌, ◌≤◌, List, ◌++◌, length, All, Option, Some, None, Ok, inl, inr, refl, sym, ap, subst, ◌∙◌, arith, Bool, true, false}
use Rattle.std.specs.Prelude.{ℤ, pos}
use Rattle.std.specs.Option.{option_to_list}
use Rattle.std.proofs.lemmas.List.{length-map}
use Rattle.std.proofs.lemmas.List.Elements.{All-nil, All-cons}
use Rattle.std.proofs.lemmas.Nat.{bit_set_by_shift}
use Rattle.std.proofs.lemmas.Nat.Bits.{bit_at-suc, shr_and_one}
use native.Mathlib.Decide.{ℕ_discrete}
use Rattle.burr_voxels.specs.declared.cell.Cell.{Cell}
use Rattle.burr_voxels.specs.declared.direction.Direction.{Direction}
use Rattle.burr_voxels.specs.Grid.{plus, along}
use Rattle.burr_code.specs.PieceSets.{IsInSet}
use Rattle.burr_code.specs.Instruction.{Instruction, Ask, Pick, IsInRange}
use Rattle.burr_code.specs.declared.placement.Placement.{Placement}
use Rattle.burr_code.specs.Places.{LiesAt, LiesIn, aside_places}
use Rattle.burr_code.proofs.Common.Conditions.{lies_within}
use Rattle.burr_code.proofs.Common.Counts.{length-aside_places}
use Rattle.burr_code.proofs.Common.PieceSets.{set_bit}
use Rattle.burr_state.specs.declared.effect.Mode.{Mode}
use Rattle.burr_state.specs.declared.effect.Mode.TheVariants.{Running, Ended, Trapped}
use Rattle.burr_state.specs.declared.effect.Motion.{Motion}
use Rattle.burr_state.specs.declared.effect.Closing.{Closing}
use Rattle.burr_state.specs.declared.effect.Progress.TheVariants as progress
use Rattle.burr_state.specs.Rules.Bench.{BenchState, BenchProcedure, Setup, start}
use Rattle.burr_state.specs.Rules.Motions.{IsMotionOf}
use Rattle.burr_state.specs.Rules.Next.{Goes}
use Rattle.burr_state.specs.Rules.Questions.{Takes}
use Rattle.burr_state.specs.Rules.Space.{motion_of, moved_places}
use Rattle.burr_state.specs.Rules.Step.{NextIs, CallIn}
use Rattle.burr_state.specs.Rules.Run.{Run, ends, stops, traps, waits, passes, takes, goes}
use Rattle.burr_state.specs.Laws.RunLaws.{IsUnderWay}
use Rattle.burr_state.specs.Laws.SpaceLaws.{IsGripHere, StepsTo}
use Rattle.burr_state.specs.Laws.MotionLaws.{IsInTrays, TraysAreFew, MotionsAreOfPieces, MotionsAreWithinBudget}
use Rattle.burr_state.proofs.Common.CallLaws.{step_where_taken}
use Rattle.burr_state.proofs.Common.Calls.{tells}
use Rattle.burr_state.proofs.Common.Built.{motion_by, Moves, lies, grips, moves, parts, chooses, next_went}
use Rattle.burr_state.proofs.Common.Leading.{leads_from}
use Rattle.burr_state.proofs.Common.Pieces.{grip_stays}
use Rattle.burr_state.proofs.Common.Reached.{IsKept, home_places, kept_by_calls, lies_at_start}
use Rattle.burr_state.proofs.Common.SomeRun.{counted_step, under_way_on}
use Rattle.burr_state.proofs.Common.Trays.Asides.{LayBefore, lay_before}
use Rattle.burr_state.proofs.Common.Trays.Parts.{all_lie_in_nothing}
use Rattle.burr_state.proofs.Common.Trays.Shifts.{lay_before_shift, length-moved}

-- Sets of the first pieces

-- a bit of the half of a set is one of the set
bit_of_half : (set p : ℕ) → IsInSet (set / 2) p → IsInSet set (suc p)
bit_of_half set p bit =
    (bit_set_by_shift set (suc p)).0 (shr_and_one set (suc p) ∙ bit_at-suc set p ∙ sym (shr_and_one (set / 2) p) ∙ (bit_set_by_shift (set / 2) p).1 bit)

-- a set of the first n pieces is below 2 ^ n
small_set : (n set : ℕ) → ((p : ℕ) → IsInSet set p → p < n) → set < 2 ^ n
small_set zero set first = elim (ℕ_discrete set 0) [
  | yes none ↦ omega (arith, none)
  | no some ↦ let found = set_bit set some in absurd (omega (arith, first found.0 found.1))
]
small_set (suc n) set first =
    let half : set / 2 < 2 ^ n = small_set n (set / 2) (λ p bit. let below = first (suc p) (bit_of_half set p bit) in omega (arith, below)) in
    omega arith

-- What a step does

-- a motion, if there is one, is a motion of this many pieces
abbrev MotionFits : ℕ → Option Motion → Type 0
MotionFits pieces None = Unit {0}
MotionFits pieces (Some motion) = IsMotionOf pieces motion

-- where each piece lies and the motion, after a step
record GoesInTrays (pieces : ℕ) (s new : BenchState) (motion : Option Motion) : Type 0 where
  pub trays : IsInTrays new
  pub as_many : length new.places ≡ length s.places
  pub moves : MotionFits pieces motion

-- all stays where it is
stays : {pieces : ℕ} {s new : BenchState} → IsInTrays s → new.places ≡ s.places → new.tray < 32 → GoesInTrays pieces s new None
stays few places tray = record {
  trays = record {
    current = tray;
    pieces = λ p t lies. few.pieces p t (subst (λ (ps : List (Placement Cell)). LiesIn ps p t) places lies);
  };
  as_many = ap length places;
  moves = tt;
}

-- the grip moves
grip_motion : (pieces : ℕ) (s : BenchState) (direction : Direction) (out : Bool) → IsInTrays s → IsGripHere s → length s.places ≡ pieces → s.grip ≢ 0
    → IsMotionOf pieces (motion_of s.grip s.tray direction out)
grip_motion pieces s direction out few here as_many some = record {
  some = some;
  group = small_set pieces s.grip (λ p bit. subst (λ n. p < n) as_many (lies_within s.places p s.tray (here p bit)));
  tray = few.current;
}

module _ (setup : Setup) (here : BenchProcedure) (s : BenchState) (few : IsInTrays s) (gripped : IsGripHere s) (as_many : length s.places ≡ length setup.homes) where
  unit : (new : BenchState) (direction : Direction) → s.grip ≢ 0 → new.places ≡ moved_places s.grip direction s.places → new.tray ≡ s.tray
      → GoesInTrays (length setup.homes) s new (Some (motion_of s.grip s.tray direction false))
  unit new direction some places tray = record {
    trays = record {
      current = subst (λ t. t < 32) (sym tray) few.current;
      pieces = λ p t lies.
          let old = lay_before_shift (λ (o : Cell). plus o (along direction (pos 1))) s.grip p t lies.0 s.places (subst (λ (ps : List (Placement Cell)). LiesAt ps p t lies.0) places lies.1) in
          few.pieces p t (old.0, old.1);
    };
    as_many = ap length places ∙ length-moved s.grip direction s.places;
    moves = grip_motion (length setup.homes) s direction false few gripped as_many some;
  }

  aside : (new : BenchState) (direction : Direction) (there : ℕ) → there < 32 → s.grip ≢ 0 → new.places ≡ aside_places s.grip s.tray there s.places → new.tray ≡ s.tray
      → GoesInTrays (length setup.homes) s new (Some (motion_of s.grip s.tray direction true))
  aside new direction there small some places tray = record {
    trays = record {
      current = subst (λ t. t < 32) (sym tray) few.current;
      pieces = λ p t lies. by_place p t lies.0 (lay_before s.grip s.tray there s.places p t lies.0 gripped (subst (λ (ps : List (Placement Cell)). LiesAt ps p t lies.0) places lies.1));
    };
    as_many = ap length places ∙ length-aside_places s.grip s.tray there s.places;
    moves = grip_motion (length setup.homes) s direction true few gripped as_many some;
  }
    where
      by_place : (p t : ℕ) (offset : Cell) → LayBefore s.grip s.tray there s.places p t offset → t < 32
      by_place p t offset (inl gone) = subst (λ u. u < 32) (sym gone.1) small
      by_place p t offset (inr still) = few.pieces p t (offset, still.1)

  goes_by : (i : Instruction) (new : BenchState) (motion : Option Motion) → IsInRange i → motion ≡ motion_by s i → Moves setup s new i
      → GoesInTrays (length setup.homes) s new motion
  goes_by i new motion small is moved = subst (GoesInTrays (length setup.homes) s new) (sym is) (by_moves moved)
    where
      same_tray : new.tray ≡ s.tray → new.tray < 32
      same_tray tray = subst (λ t. t < 32) (sym tray) few.current

      by_moves : Moves setup s new i → GoesInTrays (length setup.homes) s new (motion_by s i)
      by_moves (lies none places tray grip) = rw none (stays few places (same_tray tray))
      by_moves (grips none places tray lie) = rw none (stays few places (same_tray tray))
      by_moves (moves direction unit_is some places tray grip apart) = rw unit_is (unit new direction some places tray)
      by_moves (parts direction there aside_is some range places tray grip empty) = rw aside_is (aside new direction there (range small) some places tray)
      by_moves (chooses none range places grip) = rw none (stays few places (range small))

-- What holds along a run

-- where the pieces lie in a state of a run
record IsFit (setup : Setup) (s : BenchState) : Type 0 where
  pub trays : IsInTrays s
  pub gripped : IsGripHere s
  pub as_many : length s.places ≡ length setup.homes

-- what stands next keeps the trays, and its motion is one of the pieces
goes_fit : (setup : Setup) (s new : BenchState) (motion : Option Motion) → IsFit setup s → NextIs setup s (Goes new motion) → GoesInTrays (length setup.homes) s new motion
goes_fit setup s new motion fit next =
    let n = next_went setup s new motion next in
    goes_by setup n.here s fit.trays fit.gripped fit.as_many n.i new motion n.at.1.in_range n.went.motion_is n.went.moves

-- an answer moves no piece
taken_fit : (setup : Setup) (here : BenchProcedure) (s : BenchState) (i : Instruction) (answer : ℤ) (new : BenchState) → IsFit setup s → Takes here s i answer new → GoesInTrays (length setup.homes) s new None
taken_fit setup here s (Ask low high) answer new fit is = subst (λ (t : BenchState). GoesInTrays (length setup.homes) s t None) (sym is) (stays fit.trays refl fit.trays.current)
taken_fit setup here s (Pick labels) answer new fit taken = subst (λ (t : BenchState). GoesInTrays (length setup.homes) s t None) (sym taken.6) (stays fit.trays refl fit.trays.current)
taken_fit setup here s i answer new fit taken = absurd taken

fit_after : {motion : Option Motion} (setup : Setup) (s new : BenchState) → StepsTo setup s new → IsFit setup s → GoesInTrays (length setup.homes) s new motion → IsFit setup new
fit_after setup s new step fit gone = record { trays = gone.trays; gripped = grip_stays setup s new step fit.gripped; as_many = gone.as_many ∙ fit.as_many }

fit_stays : (setup : Setup) → IsKept setup (IsFit setup)
fit_stays setup s new (inl gone) fit = fit_after setup s new (inl gone) fit (goes_fit setup s new gone.0 fit gone.1)
fit_stays setup s new (inr taken) fit = fit_after setup s new (inr taken) fit (taken_fit setup taken.1.0 s taken.1.1 taken.0 new fit taken.1.7)

fit_at_start : (setup : Setup) → IsFit setup (start setup)
fit_at_start setup = record {
  trays = record { current = omega arith; pieces = λ p t lies. subst (λ u. u < 32) (lies_at_start setup.homes p t lies.0 lies.1).0 (omega arith) };
  gripped = all_lie_in_nothing (home_places setup.homes) 0;
  as_many = length-map setup.homes _;
}

pub trays_are_few : TraysAreFew
trays_are_few setup s (budget, answers, left, motions, calls) =
    (kept_by_calls setup budget (IsFit setup) (start setup) s answers left motions (fit_stays setup) calls (fit_at_start setup)).trays

-- a call by the mode of the state
told_fit : (setup : Setup) (s new : BenchState) (answer : Option ℤ) (motion : Motion) (mode : Mode) → s.mode ≡ mode → IsFit setup s
    → CallIn mode setup s answer (Ok (progress.Went (Some motion))) new → IsMotionOf (length setup.homes) motion
told_fit setup s new None motion Running is fit called =
    (goes_fit setup s new (Some motion) fit (tells setup s new (Ok (progress.Went (Some motion))) is (subst (λ (m : Mode). CallIn m setup s None (Ok (progress.Went (Some motion))) new) (sym is) called))).moves
told_fit setup s new (Some answer) motion Running is fit (inl taken) = let none = taken.1 in cc
told_fit setup s new (Some answer) motion Running is fit (inr unfit) = let again = unfit.1 in cc
told_fit setup s new answer motion Ended is fit called = let ended = called.0 in cc
told_fit setup s new answer motion (Trapped trap) is fit called = let failed = called.0 in cc

pub motions_are_of_pieces : MotionsAreOfPieces
motions_are_of_pieces setup s new answer motion (budget, answers, left, motions, calls) called =
    told_fit setup s new answer motion s.mode refl
    (kept_by_calls setup budget (IsFit setup) (start setup) s answers left motions (fit_stays setup) calls (fit_at_start setup)) called

-- The motions of whole runs

first_motion : (pieces : ℕ) (motion : Option Motion) (motions : List Motion) → MotionFits pieces motion → All (IsMotionOf pieces) motions → All (IsMotionOf pieces) (option_to_list motion ++ motions)
first_motion pieces None motions fits each = each
first_motion pieces (Some motion) motions fits each = All-cons (IsMotionOf pieces) motion motions fits each

motions_from : (setup : Setup) (budget : ℕ) (s : BenchState) (answers : List ℤ) (motions : List Motion) (steps : ℕ) (closing : Closing)
    → Run setup budget s answers motions steps closing → IsFit setup s → All (IsMotionOf (length setup.homes)) motions
motions_from setup budget _ _ _ _ _ (ends s _ ended) fit = All-nil (IsMotionOf (length setup.homes))
motions_from setup budget _ _ _ _ _ (stops s _ running used) fit = All-nil (IsMotionOf (length setup.homes))
motions_from setup budget _ _ _ _ _ (traps s _ trap going is) fit = All-nil (IsMotionOf (length setup.homes))
motions_from setup budget _ _ _ _ _ (waits s low high going is) fit = All-nil (IsMotionOf (length setup.homes))
motions_from setup budget _ _ _ steps closing (passes s low high answer answers motions _ _ going is unfit run) fit = motions_from setup budget s answers motions steps closing run fit
motions_from setup budget _ _ _ steps closing (takes s new answer answers motions _ _ going taken run) fit =
    motions_from setup budget new answers motions steps closing run (fit_stays setup s new (inr (answer, taken)) fit)
motions_from setup budget _ answers _ steps closing (goes s new motion _ motions _ _ going is run) fit =
    first_motion (length setup.homes) motion motions (goes_fit setup s new motion fit is).moves
    (motions_from setup budget new answers motions steps closing run (fit_stays setup s new (inl (motion, is)) fit))

-- each motion of a run from the start is one that the pieces can make
pub motions_of_run : (setup : Setup) (budget : ℕ) (answers : List ℤ) (motions : List Motion) (steps : ℕ) (closing : Closing)
    → Run setup budget (start setup) answers motions steps closing → All (IsMotionOf (length setup.homes)) motions
motions_of_run setup budget answers motions steps closing run = motions_from setup budget (start setup) answers motions steps closing run (fit_at_start setup)

-- How many

one_at_most : (motion : Option Motion) (motions : List Motion) → length (option_to_list motion ++ motions) ≤ length motions + 1
one_at_most None motions = omega arith
one_at_most (Some motion) motions = omega arith

counts_from : (setup : Setup) (budget : ℕ) (s : BenchState) (answers : List ℤ) (motions : List Motion) (steps : ℕ) (closing : Closing)
    → budget < 2 ^ 64 → Run setup budget s answers motions steps closing → IsUnderWay budget s → (s.steps + length motions ≤ steps) × (steps ≤ budget)
counts_from setup budget _ _ _ _ _ countable (ends s _ ended) under_way = (omega arith, under_way.within)
counts_from setup budget _ _ _ _ _ countable (stops s _ running used) under_way = (omega arith, under_way.within)
counts_from setup budget _ _ _ _ _ countable (traps s _ trap going is) under_way = (omega arith, under_way.within)
counts_from setup budget _ _ _ _ _ countable (waits s low high going is) under_way = (omega arith, under_way.within)
counts_from setup budget _ _ _ steps closing countable (passes s low high answer answers motions _ _ going is unfit run) under_way =
    counts_from setup budget s answers motions steps closing countable run under_way
counts_from setup budget _ _ _ steps closing countable (takes s new answer answers motions _ _ going taken run) under_way =
    let step = step_where_taken setup s new answer going.running taken in
    let counted = counted_step budget s new countable under_way going step in
    let rest = counts_from setup budget new answers motions steps closing countable run (under_way_on budget s new countable under_way going step) in
    (omega (arith, counted, rest.0), rest.1)
counts_from setup budget _ answers _ steps closing countable (goes s new motion _ motions _ _ going is run) under_way =
    let step = leads_from setup s (Goes new motion) going.running is in
    let counted = counted_step budget s new countable under_way going step in
    let few = one_at_most motion motions in
    let rest = counts_from setup budget new answers motions steps closing countable run (under_way_on budget s new countable under_way going step) in
    (omega (arith, counted, few, rest.0), rest.1)

pub motions_are_within_budget : MotionsAreWithinBudget
motions_are_within_budget setup budget s answers motions steps closing countable under_way run = counts_from setup budget s answers motions steps closing countable run under_way
