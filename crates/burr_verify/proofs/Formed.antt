-- What is read of a container's frames, beside what the plan says: parameters, exit frames, labels, and
-- what tests of them answer.
use Rattle.std.proofs.Common.{◌≡◌, ◌↔◌, ℕ, ◌<◌, ◌≤◌, ◌==◌, Bool, false, IsTrue, Option, Some, None, List, [], ◌∷◌, length, map, refl, sym, ap, ◌∙◌, subst, arith}
use Rattle.std.specs.Prelude.{slice_get, true}
use Rattle.std.specs.Option.{is_some}
use Rattle.std.proofs.lemmas.Bool.{false≢true}
use Rattle.std.proofs.lemmas.Bool.Decides.{nat_tests}
use Rattle.std.proofs.lemmas.List.{length-map}
use Rattle.std.proofs.lemmas.Option.{none-some, same_Some, slice_get_within}
use Rattle.burr_code.specs.declared.placement.Placement.{Placement}
use Rattle.burr_code.specs.Places.{AllLieIn}
use Rattle.burr_forms.specs.Rules.Points.{box_size}
use Rattle.burr_container.specs.declared.frame_ref.FrameRef.{FrameRef}
use Rattle.burr_container.specs.Views.Containers.{ContainerView, IsContainer, OfLabel}
use Rattle.burr_container.specs.declared.frame_ref.ExitRef.{ExitRef}
use Rattle.burr_container.specs.Rules.Plans.{FormCell, Range, Frame, PlanProcedure, Plan, live_slots, over_symbols}
use Rattle.burr_container.specs.Views.InPlace.{IsExit}
use Rattle.burr_container.specs.Views.Refs.{frame_of}
use Rattle.burr_frames.specs.Views.Exits.{framed_ref}
use Rattle.burr_frames.specs.Rules.FramedPlans.{FramedExit, FramedProcedure, framed, framed_procedure, framed_plan}
use Rattle.burr_frames.specs.Rules.States.{AbstractState, state_of}
use Rattle.burr_frames.proofs.Common.ExitsRead.{no_exit, exit_there}
use Rattle.burr_verify.specs.Views.Forming.{IsLive, IsFormedAt}
use Rattle.burr_verify.specs.Rules.Judging.{HasRoomForPoints}
use Rattle.burr_verify.specs.Rules.WellFramed.{HasNoLonePiece, IsFormedEntry, IsFormedExit}
use Rattle.burr_verify.proofs.LabelPlaces.{frame_read, place_of}

-- Exit frames

-- the exit frame that is read is that of the procedure
pub exit_here : (pieces : ℕ) (q : PlanProcedure) (here : FramedProcedure) (kept : ExitRef) → here ≡ framed_procedure q
    → IsExit pieces q.parameters q.results (Some kept) q.exit → here.exit ≡ Some (framed_ref kept)
exit_here pieces q here kept same is =
    ap (λ (h : FramedProcedure). h.exit) same ∙ exit_there pieces q.parameters q.results kept q.exit is

pub no_exit_here : (pieces : ℕ) (q : PlanProcedure) (here : FramedProcedure) → here ≡ framed_procedure q
    → IsExit pieces q.parameters q.results None q.exit → here.exit ≡ None
no_exit_here pieces q here same is =
    ap (λ (h : FramedProcedure). h.exit) same ∙ no_exit pieces q.parameters q.results q.exit is

-- Tests of frames

-- what a test of places that are read says of those that are there
pieces_formed : (read places : List (Placement FormCell)) (there tray set grip : ℕ) (b : Bool) → read ≡ places → there ≡ tray
    → set ≡ grip → IsTrue b ↔ (AllLieIn read there set × HasNoLonePiece read)
    → IsTrue b ↔ (AllLieIn places tray grip × HasNoLonePiece places)
pieces_formed read places there tray set grip b e f g test =
    subst (λ (s : ℕ). IsTrue b ↔ (AllLieIn places tray s × HasNoLonePiece places)) g
    (subst (λ (t : ℕ). IsTrue b ↔ (AllLieIn places t set × HasNoLonePiece places)) f
    (subst (λ (ps : List (Placement FormCell)). IsTrue b ↔ (AllLieIn ps there set × HasNoLonePiece ps)) e test))

pub exit_formed : (f : FramedExit) (read : List (Placement FormCell)) (there set : ℕ) (b : Bool) → read ≡ f.places → there ≡ f.tray
    → set ≡ f.grip → IsTrue b ↔ (AllLieIn read there set × HasNoLonePiece read) → IsTrue b ↔ IsFormedExit f
exit_formed f read there set b e g h test =
    let both = pieces_formed read f.places there f.tray set f.grip b e g h test in
    (λ is. record { gripped = (both.0 is).0; trays = (both.0 is).1 }, λ formed. both.1 (formed.gripped, formed.trays))

-- whether a slot is live
pub is_live : (slots : List (Option Range)) (v : ℕ) (o : Option Range) → slice_get slots v ≡ Some o → is_some o ≡ true → IsLive slots v
is_live slots v None at some = absurd (false≢true some)
is_live slots v (Some range) at some = (range, at)

pub is_not_live : (slots : List (Option Range)) (v : ℕ) (o : Option Range) → slice_get slots v ≡ Some o → is_some o ≡ false
    → ¬ IsLive slots v
is_not_live slots v None at none live = none-some live.0 (same_Some None (Some live.0) (sym at ∙ live.1))
is_not_live slots v (Some range) at none live = false≢true (sym none)

none_of : {A B : Type 0} (f : A → B) (xs : List A) → length xs ≡ 0 → map f xs ≡ []
none_of f [] none = refl
none_of f (x ∷ xs) none = absurd (omega (arith, none))

-- where no other slot is live the operands decide
pub entry_formed : (parameters : ℕ) (f : Frame) (count : ℕ) → count ≡ length f.stack
    → ((v : ℕ) → parameters ≤ v → ¬ IsLive f.slots v) → IsTrue (count == 0) ↔ IsFormedEntry parameters (framed f)
entry_formed parameters f count same alone = (
  λ is. record {
    alone = λ v from range e. alone v from (range, e);
    bare = none_of (over_symbols (live_slots f.slots)) f.stack (omega (arith, same, zero_of count is));
  },
  λ formed. is_zero count (omega (arith, same, ap length formed.bare, length-map f.stack (over_symbols (live_slots f.slots)))),
)
  where
    zero_of : (n : ℕ) → IsTrue (n == 0) → n ≡ 0
    zero_of n is = grind (arith, nat_tests)

    is_zero : (n : ℕ) → n ≡ 0 → IsTrue (n == 0)
    is_zero n none = grind (arith, nat_tests)

-- the slots past the eight are not live
pub none_live : (slots : List (Option Range)) (from : ℕ) → length slots ≡ 8
    → ((v : ℕ) → v < 8 → from ≤ v → ¬ IsLive slots v) → (v : ℕ) → from ≤ v → ¬ IsLive slots v
none_live slots from eight none v above live =
    none v (omega (arith, eight, slice_get_within slots v (Some live.0) live.1)) above live

-- Labels

-- the place and the frame that are read of a label are those that stand there
pub label_read : (kept : ContainerView) (p : Plan) (n k : ℕ) (here : FramedProcedure) (label : ℕ × Frame) (place : ℕ)
    (frame : FrameRef) → IsContainer kept p → slice_get (framed_plan p).procedures n ≡ Some here
    → slice_get here.labels k ≡ Some label → OfLabel kept n k (λ l. place ≡ l.0)
    → OfLabel kept n k (λ l. frame_of frame ≡ l.1) → (place ≡ label.0) × (framed (frame_of frame) ≡ label.1)
label_read kept p n k here label place frame is at standing places frames = (
  sym (place_of kept n k place places p here is at label standing),
  frame_read kept n k frame frames p here is at label standing,
)

-- what a test says of the frame that is read, it says of the one that stands there
pub formed_there : (k few parameters : ℕ) (f there : Frame) (b : Bool) → few ≡ parameters → f ≡ there
    → IsTrue b ↔ IsFormedAt k few f → IsTrue b ↔ IsFormedAt k parameters there
formed_there k few parameters f there b e same test =
    subst (λ (g : Frame). IsTrue b ↔ IsFormedAt k parameters g) same
    (subst (λ (n : ℕ). IsTrue b ↔ IsFormedAt k n f) e test)

pub room_there : (s : AbstractState) (f there : Frame) (b : Bool) → s ≡ state_of f → f ≡ there
    → IsTrue b ↔ (box_size s.ranges ≤ 4096) → IsTrue b ↔ HasRoomForPoints there
room_there s f there b e same test =
    subst (λ (g : Frame). IsTrue b ↔ HasRoomForPoints g) same
    (subst (λ (t : AbstractState). IsTrue b ↔ (box_size t.ranges ≤ 4096)) e test)
