-- The start of the bench stands for the entry frame of main.
use Rattle.std.proofs.Common.{◌≡◌, ℕ, zero, suc, ◌<◌, ◌≤◌, List, [], ◌∷◌, length, Option, Some, None, refl, sym, subst, ap, arith}
use Rattle.std.specs.Prelude.{ℤ, pos, ◌+ℤ◌, ◌≤ℤ◌, map, replicate, get_or, slice_get}
use Rattle.std.proofs.lemmas.Int.{ints}
use Rattle.std.proofs.lemmas.List.{length-map}
use Rattle.std.proofs.lemmas.List.Elements.{All-nil}
use Rattle.std.proofs.lemmas.Option.{none-some, same_Some}
use Rattle.burr_voxels.specs.declared.cell.Cell.{Cell}
use Rattle.burr_voxels.specs.Grid.{origin}
use Rattle.burr_assembly.specs.Rules.Homes.{homes_of, home_of}
use Rattle.burr_assembly.specs.Rules.Text.{Assembly, IsAssembly}
use Rattle.burr_code.specs.declared.placement.Placement.{Placement}
use Rattle.burr_code.specs.declared.placement.Placement.TheVariants.{On}
use Rattle.burr_forms.specs.Rules.Forms.{Form, value, values}
use Rattle.burr_container.specs.Rules.Plans.{Range, Frame}
use Rattle.burr_frames.specs.Rules.FramedPlans.{FramedPlan}
use Rattle.burr_frames.specs.Rules.States.{places_at}
use Rattle.burr_frames.specs.Rules.Arrival.{live_forms}
use Rattle.burr_frames.specs.Rules.Starts.{home_position, start_state}
use Rattle.burr_verify.specs.Rules.WellFramed.{IsWellFramed}
use Rattle.burr_verify.specs.Views.FromContainers.{IsFromContainer}
use Rattle.burr_verify.proofs.Common.FromContainers.{entry_stands}
use Rattle.burr_state.specs.Rules.Bench.{Setup, start}
use Rattle.burr_state.specs.Rules.Calls.{begun}
use Rattle.burr_state.specs.Laws.SpaceLaws.{AreDisjoint, HomesAreDisjoint, IsReached}
use Rattle.burr_bench.specs.Soundness.Framing.{framed_setup, HasFraming}
use Rattle.burr_bench.specs.Soundness.Standing.{Stands}
use Rattle.burr_bench.specs.Soundness.Invariant.{IsGood, IsSafeState}
use Rattle.burr_state.proofs.Common.Reached.{grip_is_here, pieces_never_overlap, no_piece_is_lone}
use Rattle.burr_bench.proofs.Soundness.Arrival.{stands_at_frame}

-- what the passes leave of a plan of a container that is well framed
pub has_framing : (name : List ℕ) (homes : List (List Cell)) (plan : FramedPlan)
    → IsFromContainer plan
    → IsWellFramed name homes plan → HasFraming homes plan
has_framing name homes plan given framed = record {
  cut = λ n here is. (framed.each n here is).cut;
  eight = given.eight;
  entry = entry_stands name homes plan given framed;
  main = given.main;
  budget = given.budget;
}

-- The pieces

good_at_start : (setup : Setup) → AreDisjoint setup.homes → 2 ≤ length setup.homes
    → IsGood setup.homes (start setup).places 0 0
good_at_start setup disjoint two =
    let reached : IsReached setup (start setup) = (0, [], [], [], begun (start setup) []) in
    record {
      no_overlap = pieces_never_overlap setup (start setup) disjoint reached;
      gripped = grip_is_here setup (start setup) reached;
      no_lone = no_piece_is_lone setup (start setup) (λ one. omega (arith, two, one)) reached;
    }

-- The start stands for its state

none_known : {A : Type 0} (n v : ℕ) (x : A) → get_or (replicate n None) v None ≡ Some x → ⊥
none_known zero v x e = none-some _ e
none_known (suc n) zero x e = none-some _ e
none_known (suc n) (suc v) x e = none_known n v x e

places_at_start : (homes : List (List Cell))
    → map (λ _. On 0 origin) homes ≡ places_at [] (map (λ _. On 0 home_position) homes)
places_at_start [] = refl
places_at_start (home ∷ homes) =
    ap (λ (places : List (Placement Cell)). On 0 origin ∷ places) (places_at_start homes)

start_stands : (homes : List (List Cell)) (plan : FramedPlan)
    → Stands (start_state homes) [] (start (framed_setup plan homes))
start_stands homes plan = record {
  running = record {
    is_point = (tt, All-nil (λ (f : Form). pos 0 ≤ℤ value [] f));
    slots_known = λ v f e. absurd (none_known 8 v f e);
    slots_as_many = refl;
    operands_are = refl;
  };
  lie = record { places = places_at_start homes; tray = refl; grip = refl };
}

-- an entry frame that the start meets has no live slot, so main has no parameter
no_forms : (slots : List (Option Range)) (n : ℕ) (forms : List Form)
    → live_forms slots (replicate n None) ≡ Some forms
    → forms ≡ []
no_forms [] n forms e = sym (same_Some _ _ e)
no_forms (None ∷ slots) zero forms e = no_forms slots zero forms e
no_forms (None ∷ slots) (suc n) forms e = no_forms slots n forms e
no_forms (Some range ∷ slots) zero forms e = absurd (none-some _ e)
no_forms (Some range ∷ slots) (suc n) forms e = absurd (none-some _ e)

first_not_live : (slots : List (Option Range)) (n : ℕ) (forms : List Form) (range : Range)
    → live_forms slots (replicate n None) ≡ Some forms → slice_get slots 0 ≡ Some (Some range) → ⊥
first_not_live [] n forms range e is = none-some _ is
first_not_live (None ∷ slots) n forms range e is = none-some _ (same_Some _ _ is)
first_not_live (Some r ∷ slots) zero forms range e is = none-some _ e
first_not_live (Some r ∷ slots) (suc n) forms range e is = none-some _ e

no_parameters : (m : ℕ) (f : Frame) (forms : List Form) → live_forms f.slots (replicate 8 None)
    ≡ Some forms
    → ((v : ℕ) → v < m → (range : Range) × (slice_get f.slots v ≡ Some (Some range))) → 0 ≡ m
no_parameters zero f forms e live = refl
no_parameters (suc m) f forms e live =
    let first = live 0 (omega arith) in absurd (first_not_live f.slots 8 forms first.0 e first.1)

nothing_waits : (a : ℤ) (l : ℤ) → a ≤ℤ l → ((a +ℤ pos 0) +ℤ pos 0) ≤ℤ l
nothing_waits a l h = omega (arith, ints)

pub start_is_safe : (name : List ℕ) (homes : List (List Cell)) (plan : FramedPlan)
    → IsFromContainer plan
    → IsWellFramed name homes plan → AreDisjoint homes → 2 ≤ length homes
    → IsSafeState homes plan (start (framed_setup plan homes))
start_is_safe name homes plan given framed disjoint two =
    let begins = framed.start in
    let main = begins.main in
    let f = begins.frame in
    let meets = begins.meets in
    let ok = has_framing name homes plan given framed in
    let cut = ok.cut 0 main begins.is_main in
    let labelled = (ok.entry 0 main f begins.is_main begins.is_entry).0 in
    let at = cut.1.labels 0 f labelled in
    let none : meets.forms ≡ [] = no_forms f.slots 8 meets.forms meets.known in
    let live = (((framed.each 0 main begins.is_main).frames 0 f labelled).0).live in
    let count : 0 ≡ main.parameters =
    no_parameters main.parameters f meets.forms meets.known live in
    record {
      mode = refl;
      here = main;
      here_is = begins.is_main;
      rows = cut.0;
      cut = cut.1;
      k = at.0;
      row = at.1;
      row_is = at.2;
      pc = sym at.3;
      point = values [] meets.forms;
      stands =
          rw at.4 (stands_at_frame (start_state homes) f [] _ meets
          (given.eight 0 main begins.is_main 0 f labelled) (start_stands homes plan));
      good = good_at_start (framed_setup plan homes) disjoint two;
      parameters = [];
      parameters_are = record { as_many = count; each = λ v lt. absurd (omega arith) };
      waiting_cost = pos 0;
      callers = (refl, refl);
      budgeted = rw (at.4, none) (nothing_waits (value [] f.cost) (pos plan.budget) begins.cost);
    }

-- of the pieces of an assembly
pub assembled_start : HomesAreDisjoint → (a : Assembly) → IsAssembly a → (plan : FramedPlan) → IsFromContainer plan
    → IsWellFramed a.name (homes_of a) plan → IsSafeState (homes_of a) plan (start (framed_setup plan (homes_of a)))
assembled_start disjoint a whole plan given framed =
    start_is_safe a.name (homes_of a) plan given framed (disjoint a whole).0
    (subst (λ (n : ℕ). 2 ≤ n) (sym (length-map a.pieces (home_of a.shapes))) whole.pieces.0)
