-- The instructions that move pieces or ask where they lie: no trap, and the bench stands for what falls
-- out.
use Rattle.std.proofs.Common.{◌≡◌, ℕ, List, None, refl, sym, subst, ap, ◌∙◌}
use Rattle.std.specs.Prelude.{pos}
use Rattle.burr_voxels.specs.declared.cell.Cell.{Cell}
use Rattle.burr_voxels.specs.declared.direction.Direction.{Direction}
use Rattle.burr_voxels.specs.Grid.{plus, shifted, along}
use Rattle.burr_voxels.specs.CellSets.{Overlap, IsFree}
use Rattle.burr_voxels.specs.Near.{IsWithin}
use Rattle.burr_voxels.proofs.Common.Ahead.{same_cell}
use Rattle.burr_code.specs.declared.placement.Placement.{Placement}
use Rattle.burr_code.specs.declared.placement.Placement.TheVariants.{Apart, On}
use Rattle.burr_code.specs.Places.{AllApart, AllLieIn, IsEmptyTray, IsPartOfTray, at_position}
use Rattle.burr_code.specs.Instruction.{Grip, Step, Aside, Tray}
use Rattle.burr_forms.specs.Rules.Forms.{Point}
use Rattle.burr_container.specs.Rules.Plans.{FormCell}
use Rattle.burr_frames.specs.Rules.FramedPlans.{FramedProcedure}
use Rattle.burr_frames.specs.Rules.States.{AbstractState, cell_at, places_at}
use Rattle.burr_frames.specs.Rules.Verdicts.{Verdict}
use Rattle.burr_frames.specs.Rules.ControlRules.{halt_rule}
use Rattle.burr_frames.specs.Rules.SpaceRules.{moved, moved_forms, OnBenchAt, PairAt, DoesNotOverlap, GoesFree, grip_rule, step_rule, aside_rule, tray_rule}
use Rattle.burr_state.specs.declared.effect.Mode.TheVariants.{Ended}
use Rattle.burr_state.specs.Rules.Bench.{BenchState}
use Rattle.burr_state.specs.Rules.Control.{halting}
use Rattle.burr_state.specs.Rules.Next.{Next, Goes, stepped}
use Rattle.burr_state.specs.Rules.Space.{AllOnBench, IsFreeGroup, NoOverlap, moved_places, gripping, stepping, going_aside, choosing_tray}
use Rattle.burr_bench.specs.Soundness.Framing.{framed_setup}
use Rattle.burr_bench.specs.Soundness.Standing.{Stands}
use Rattle.burr_bench.proofs.Soundness.StepOutcomes.{FallsOn}
use Rattle.burr_frames.specs.Rules.FramedPlans.{FramedPlan}
use Rattle.burr_frames.proofs.Common.FineVerdicts.{IsFine, held, held_everywhere, held_of_pairs, paid}
use Rattle.burr_frames.proofs.Common.FormValues.{value_raised}
use Rattle.burr_bench.proofs.Soundness.Failing.{goes_past}
use Rattle.burr_bench.proofs.Soundness.Operands.{falls_on}
use Rattle.burr_bench.proofs.Soundness.Mapped.{changed_map, mapped_at, lies_at_back, lies_at_map, aside_mapped}
use Rattle.burr_bench.proofs.Stepping.Ways.{AllKeepClear, no_overlap_past}
use Rattle.burr_state.proofs.Common.Trays.Shifts.{lies_at_shifted, lies_at_kept}

-- forms moved by one unit have the values of cells moved by one unit
cell_moved : (direction : Direction) (point : Point) (c : FormCell)
    → cell_at point (moved_forms direction c) ≡ plus (cell_at point c) (along direction (pos 1))
cell_moved direction point c =
    same_cell _ _ (value_raised (along direction (pos 1)).x c.x point)
    (value_raised (along direction (pos 1)).y c.y point)
    (value_raised (along direction (pos 1)).z c.z point)

place_moved : (direction : Direction) (point : Point) (place : Placement FormCell)
    → at_position (cell_at point) (at_position (moved_forms direction) place) ≡ at_position
    (λ (offset : Cell). plus offset (along direction (pos 1))) (at_position (cell_at point) place)
place_moved direction point Apart = refl
place_moved direction point (On tray c) =
    ap (λ (x : Cell). On tray x) (cell_moved direction point c)

places_moved : (direction : Direction) (point : Point) (grip : ℕ)
    (places : List (Placement FormCell)) → places_at point (moved grip direction places)
    ≡ moved_places grip direction (places_at point places)
places_moved direction point grip places =
    changed_map (at_position (cell_at point)) (at_position (moved_forms direction))
    (at_position (λ (offset : Cell). plus offset (along direction (pos 1))))
    (place_moved direction point) grip 0 places

-- The bench's conditions by the rules, at a point

module _ (homes : List (List Cell)) (places : List (Placement FormCell)) (tray grip : ℕ) (direction : Direction) (point : Point) where
  on_bench : OnBenchAt places tray point → AllOnBench (places_at point places) tray
  on_bench on p offset lies =
      let back = lies_at_back (cell_at point) places p tray offset lies in
      subst (λ c. IsWithin 256 c) back.2 (on p back.0 back.1)

  -- no gripped piece meets one that is not, one unit on
  keep_clear : ((p q : ℕ) → PairAt DoesNotOverlap homes (moved grip direction places) tray grip point p q)
      → AllKeepClear homes (places_at point places) tray grip direction
  keep_clear rule p q P Q o r bit out hp hq lp lq over =
      let x = lies_at_back (cell_at point) places p tray o lp in
      let y = lies_at_back (cell_at point) places q tray r lq in
      rule p q P Q (moved_forms direction x.0) y.0 bit out hp hq
      (lies_at_shifted (moved_forms direction) grip p tray x.0 places bit x.1)
      (lies_at_kept (moved_forms direction) grip q tray y.0 places out y.1)
      (subst (λ c. Overlap (shifted c P) (shifted (cell_at point y.0) Q))
      (sym (cell_moved direction point x.0 ∙ ap (λ (c : Cell). plus c (along direction (pos 1))) x.2))
      (subst (λ c. Overlap (shifted (plus o (along direction (pos 1))) P) (shifted c Q)) (sym y.2) over))

  part_of_tray : IsPartOfTray grip places tray → IsPartOfTray grip (places_at point places) tray
  part_of_tray h =
      (h.0, h.1, (cell_at point h.2.0, lies_at_map (cell_at point) places h.1 tray h.2.0 h.2.1), h.3)

  empty_tray : IsEmptyTray places tray → IsEmptyTray (places_at point places) tray
  empty_tray h p lies =
      let back = lies_at_back (cell_at point) places p tray lies.0 lies.1 in h p (back.0, back.1)

  free_group : ((p q : ℕ) → PairAt (GoesFree direction) homes places tray grip point p q)
      → IsFreeGroup homes (places_at point places) tray grip direction
  free_group rule p q P Q o r bit out hp hq lp lq =
      let x = lies_at_back (cell_at point) places p tray o lp in
      let y = lies_at_back (cell_at point) places q tray r lq in
      subst (λ c. IsFree (shifted c P) (shifted r Q) direction) x.2
      (subst (λ c. IsFree (shifted (cell_at point x.0) P) (shifted c Q) direction) y.2
      (rule p q P Q x.0 y.0 bit out hp hq x.1 y.1))

apart_at : (places : List (Placement FormCell)) (point : Point) → AllApart places
    → AllApart (places_at point places)
apart_at places point h p place e =
    let back = mapped_at (at_position (cell_at point)) places p place e in
    sym back.2 ∙ ap (λ (x : Placement FormCell). at_position (cell_at point) x) (h p back.0 back.1)

module _ (here : FramedProcedure) (s : AbstractState) (point : Point) (b : BenchState) (v : Verdict) (next : Next)
    (fine : IsFine v) (st : Stands s point b) where
  pub sound_grip : (group : ℕ) → grip_rule s group v → gripping b group next → FallsOn here (Grip group) s point b v next
  sound_grip group t rule =
      let h = held fine t in
      let lie : AllLieIn (places_at point s.places) s.tray group =
      λ k bit. let l = h.0 k bit in (cell_at point l.0, lies_at_map (cell_at point) s.places k s.tray l.0 l.1) in
      falls_on here s point b v next fine st (Grip group) (paid s fine h.1).1
      (goes_past (rw (st.lie.places, st.lie.tray) lie) rule)
      st.running.is_point.1 st.running.operands_are st.lie.places st.lie.tray refl

  pub sound_tray : (tray : ℕ) → tray_rule s tray v → choosing_tray b tray next → FallsOn here (Tray tray) s point b v next
  sound_tray tray t rule =
      falls_on here s point b v next fine st (Tray tray) (paid s fine t).1 rule
      st.running.is_point.1 st.running.operands_are st.lie.places refl refl

  -- the run may end where all pieces are apart
  pub sound_halt : {n : ℕ} → halt_rule n s v → halting b next → b.running.procedure ≡ n
      → AllApart b.places × (next ≡ Goes (stepped (record b { mode = Ended })) None)
  sound_halt t rule same =
      let main = held fine t in
      let apart : AllApart b.places = rw st.lie.places (apart_at s.places point (held fine main.1).0) in
      (apart, goes_past apart (goes_past (same ∙ main.0) rule))

  module _ (homes : List (List Cell)) (plan : FramedPlan) (direction : Direction) where
    pub sound_step : NoOverlap homes b.places → step_rule homes s direction v
        → stepping (framed_setup plan homes) b direction next → FallsOn here (Step direction) s point b v next
    sound_step none t rule =
        let h = held fine t in
        let small = held fine h.1 in
        let on = held_everywhere s fine small.1 in
        let apart = held_of_pairs s fine on.1 in
        let is = st.running.is_point in
        let e : moved_places b.grip direction b.places ≡ places_at point (moved s.grip direction s.places) =
        rw (st.lie.places, st.lie.grip) (sym (places_moved direction point s.grip s.places)) in
        let bench : AllOnBench (moved_places b.grip direction b.places) b.tray =
        rw (e, st.lie.tray) (on_bench homes (moved s.grip direction s.places) s.tray s.grip direction point (on.0 point is)) in
        let clear : AllKeepClear homes b.places b.tray b.grip direction =
        rw (st.lie.places, st.lie.tray, st.lie.grip) (keep_clear homes s.places s.tray s.grip direction point (apart.0 point is)) in
        falls_on here s point b v next fine st (Step direction) (paid s fine apart.1).1
        (goes_past (no_overlap_past homes b.places b.tray b.grip direction (none b.tray) clear)
        (goes_past bench (goes_past (λ z. h.0 (sym st.lie.grip ∙ z)) rule)))
        is.1 st.running.operands_are e st.lie.tray st.lie.grip

    pub sound_aside : (tray : ℕ) → aside_rule homes s direction tray v
        → going_aside (framed_setup plan homes) b direction tray next → FallsOn here (Aside direction tray) s point b v next
    sound_aside tray t rule =
        let part = held fine t in
        let empty = held fine part.1 in
        let on = held_everywhere s fine empty.1 in
        let free = held_of_pairs s fine on.1 in
        let is = st.running.is_point in
        let part_here : IsPartOfTray b.grip b.places b.tray =
        rw (st.lie.places, st.lie.tray, st.lie.grip) (part_of_tray homes s.places s.tray s.grip direction point part.0) in
        let bench_empty : IsEmptyTray b.places tray =
        rw st.lie.places (empty_tray homes s.places tray s.grip direction point empty.0) in
        let bench_free : IsFreeGroup homes b.places b.tray b.grip direction =
        rw (st.lie.places, st.lie.tray, st.lie.grip) (free_group homes s.places s.tray s.grip direction point (free.0 point is)) in
        falls_on here s point b v next fine st (Aside direction tray) (paid s fine free.1).1
        (goes_past bench_free (goes_past bench_empty (goes_past part_here rule)))
        is.1 st.running.operands_are
        (rw (st.lie.places, st.lie.tray, st.lie.grip) (sym (aside_mapped (cell_at point) s.grip s.tray tray s.places)))
        st.lie.tray refl
