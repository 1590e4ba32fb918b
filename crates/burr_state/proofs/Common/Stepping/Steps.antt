-- What the instructions of a bench at work come to.
use Rattle.std.proofs.Common.{◌≡◌, ℕ, List, length, ◌∙◌, refl, ap, subst, inl, inr, arith, true, false, ◌≢◌, pos}
use Rattle.std.specs.Prelude.{Some, ◌<◌, ◌^◌, slice_get}
use Rattle.burr_voxels.specs.declared.cell.Cell.{Cell}
use Rattle.burr_voxels.specs.declared.direction.Direction.{Direction}
use Rattle.burr_voxels.specs.Grid.{plus, along}
use Rattle.burr_voxels.specs.Near.{IsWithin}
use Rattle.burr_code.specs.Places.{IsPartOfTray, IsEmptyTray, aside_places}
use Rattle.burr_code.proofs.Common.Counts.{length-aside_places}
use Rattle.burr_code.specs.Instruction.{Instruction, Step, Aside, spelled, StandsAt}
use Rattle.burr_state.specs.declared.effect.Trap.TheVariants as traps
use Rattle.burr_state.specs.declared.effect.Motion.{Motion}
use Rattle.burr_state.specs.Rules.Bench.{BenchProcedure, BenchState, Setup}
use Rattle.burr_state.specs.Rules.Next.{Goes, Traps}
use Rattle.burr_state.specs.Rules.Space.{NoOverlapIn, AllOnBench, IsFreeGroup, moved_places, motion_of}
use Rattle.burr_state.specs.Rules.Step.{Executes, IsAt}
use Rattle.burr_state.specs.Views.StateViews.{IsOrderly, IsCallChain, after, moved_grip, StaysOnBench}
use Rattle.burr_state.proofs.Common.Stepping.Near.{near_after_unit}
use Rattle.burr_state.proofs.Common.Trays.Shifts.{lies_after_shift, length-moved}
use Rattle.burr_state.proofs.Common.Trays.Parts.{all_lie_in_nothing, PositionsHold-aside_places}

-- Instructions: what each does, and its traps

pub step_off_bench : (setup : Setup) (here : BenchProcedure) (s : BenchState) (direction : Direction) → s.grip ≢ 0 → (¬ AllOnBench (moved_places s.grip direction s.places) s.tray)
    → Executes setup here s (Step direction) (Traps traps.OffBench)
step_off_bench setup here s direction some off = inr (some, inl (off, refl))

pub step_collides : (setup : Setup) (here : BenchProcedure) (s : BenchState) (direction : Direction) → s.grip ≢ 0 → AllOnBench (moved_places s.grip direction s.places) s.tray
    → (¬ NoOverlapIn setup.homes (moved_places s.grip direction s.places) s.tray) → Executes setup here s (Step direction) (Traps traps.Collision)
step_collides setup here s direction some on met = inr (some, inr (on, inl (met, refl)))

pub step_goes : (setup : Setup) (here : BenchProcedure) (s new : BenchState) (direction : Direction) (size : ℕ) (motion : Motion) → s.grip ≢ 0 → AllOnBench (moved_places s.grip direction s.places) s.tray
    → NoOverlapIn setup.homes (moved_places s.grip direction s.places) s.tray → size ≡ length (spelled (Step direction)) → motion ≡ motion_of s.grip s.tray direction false → new ≡ moved_grip direction size s
    → Executes setup here s (Step direction) (Goes new (Some motion))
step_goes setup here s new direction size motion some on none spells moves is =
    let same : new ≡ moved_grip direction 2 s = is ∙ ap (λ (n : ℕ). moved_grip direction n s) spells in
    inr (some, inr (on, inr (none, ap (λ (t : BenchState). Goes t (Some motion)) same ∙ ap (λ (m : Motion). Goes (moved_grip direction 2 s) (Some m)) moves)))

pub aside_goes : (setup : Setup) (here : BenchProcedure) (s new : BenchState) (direction : Direction) (tray size : ℕ) (motion : Motion) → IsPartOfTray s.grip s.places s.tray → IsEmptyTray s.places tray
    → IsFreeGroup setup.homes s.places s.tray s.grip direction → size ≡ length (spelled (Aside direction tray)) → motion ≡ motion_of s.grip s.tray direction true
    → new ≡ record (after size s) { places = aside_places s.grip s.tray tray s.places; grip = 0 }
    → Executes setup here s (Aside direction tray) (Goes new (Some motion))
aside_goes setup here s new direction tray size motion part empty free spells moves is =
    let same = is ∙ ap (λ (n : ℕ). record (after n s) { places = aside_places s.grip s.tray tray s.places; grip = 0 }) spells in
    inr (part, inr (empty, inr (free, ap (λ (t : BenchState). Goes t (Some motion)) same ∙ ap (λ (m : Motion). Goes (record (after 3 s) { places = aside_places s.grip s.tray tray s.places; grip = 0 }) (Some m)) moves)))

pub aside_in_use : (setup : Setup) (here : BenchProcedure) (s : BenchState) (direction : Direction) (tray : ℕ) → IsPartOfTray s.grip s.places s.tray → (¬ IsEmptyTray s.places tray)
    → Executes setup here s (Aside direction tray) (Traps traps.TrayInUse)
aside_in_use setup here s direction tray part some = inr (part, inl (some, refl))

pub aside_not_free : (setup : Setup) (here : BenchProcedure) (s : BenchState) (direction : Direction) (tray : ℕ) → IsPartOfTray s.grip s.places s.tray → IsEmptyTray s.places tray
    → (¬ IsFreeGroup setup.homes s.places s.tray s.grip direction) → Executes setup here s (Aside direction tray) (Traps traps.NotFree)
aside_not_free setup here s direction tray part empty met = inr (part, inr (empty, inl (met, refl)))

-- an instruction that is fetched from the procedure that runs
pub is_at : (setup : Setup) (s : BenchState) (here : BenchProcedure) (i : Instruction) (procedure pc : ℕ) (code : List ℕ) → procedure ≡ s.running.procedure → pc ≡ s.running.pc → slice_get setup.procedures procedure ≡ Some here → code ≡ here.code → StandsAt code pc i → IsAt setup s here i
is_at setup s here i procedure pc code same_one same_place runs of stands =
    (subst (λ n. slice_get setup.procedures n ≡ Some here) same_one runs, subst (λ n. StandsAt here.code n i) same_place (subst (λ (bytes : List ℕ). StandsAt bytes pc i) of stands))

-- What stays true

-- a state with the places after a unit is orderly
pub orderly_unit : (s t : BenchState) (direction : Direction) → IsOrderly s → StaysOnBench s direction → t.places ≡ moved_places s.grip direction s.places → t.tray ≡ s.tray → t.grip ≡ s.grip → t.running.pc < 2 ^ 16 → IsCallChain t.running.procedure t.callers → IsOrderly t
orderly_unit s t direction orderly stays places tray grip within chain = record {
  near = rw places (near_after_unit s.places s.tray s.grip direction orderly.near orderly.here stays);
  here = rw (places, tray, grip) (λ p bit. lies_after_shift (λ (o : Cell). plus o (along direction (pos 1))) s.grip p s.tray s.places (orderly.here p bit));
  few = let same = ap length places ∙ length-moved s.grip direction s.places in let few = orderly.few in omega (arith, same, few);
  within = within;
  chain = chain;
}

-- a state with the places after an `aside` is orderly
pub orderly_aside : (s t : BenchState) (there : ℕ) → IsOrderly s → t.places ≡ aside_places s.grip s.tray there s.places → t.grip ≡ 0 → t.running.pc < 2 ^ 16 → IsCallChain t.running.procedure t.callers → IsOrderly t
orderly_aside s t there orderly places grip within chain = record {
  near = rw places (PositionsHold-aside_places (IsWithin 256) s.grip s.tray there s.places orderly.near);
  here = rw grip (all_lie_in_nothing t.places t.tray);
  few = let same = ap length places ∙ length-aside_places s.grip s.tray there s.places in let few = orderly.few in omega (arith, same, few);
  within = within;
  chain = chain;
}
