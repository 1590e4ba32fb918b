-- Every step carries the invariant on, or ends the run well.
use Rattle.std.proofs.Common.{◌≡◌, ◌⊎◌, ℕ, suc, ◌<◌, List, length, Option, None, refl, sym, subst, ap, ◌∙◌, inl, inr}
use Rattle.std.specs.Prelude.{ℤ, ◌≤ℤ◌, slice_get}
use Rattle.std.proofs.lemmas.Option.{none-some, same_Some}
use Rattle.burr_voxels.specs.declared.cell.Cell.{Cell}
use Rattle.burr_code.specs.Instruction.{Instruction, Halt, Push, Load, Store, Add, Sub, Drop, Grip, Step, Aside, Tray, Jump, Down, Ask, Pick, Call, Ret, IsInRange, StandsAt}
use Rattle.burr_container.specs.Rules.Plans.{Frame}
use Rattle.burr_frames.specs.Rules.FramedPlans.{FramedPlan}
use Rattle.burr_frames.specs.Rules.Transfer.{Transfer}
use Rattle.burr_verify.specs.Rules.WellFramed.{IsLabelled}
use Rattle.burr_state.specs.declared.effect.Motion.{Motion}
use Rattle.burr_state.specs.Laws.SpaceLaws.{StepsTo}
use Rattle.burr_state.specs.Rules.Bench.{BenchState, BenchProcedure, Setup}
use Rattle.burr_state.specs.Rules.Next.{Next, Goes, Asks, Traps}
use Rattle.burr_state.specs.Rules.Step.{Executes, IsAt, NextIs, TakesAnswer}
use Rattle.burr_state.specs.Rules.Questions.{Takes, Fits}
use Rattle.burr_state.proofs.Common.Pieces.{grip_stays, no_overlap_stays, none_lone_stays}
use Rattle.burr_bench.specs.Soundness.Framing.{bench_part, framed_setup, HasFraming}
use Rattle.burr_bench.specs.Soundness.SafeRuns.{HasEnded}
use Rattle.burr_bench.specs.Soundness.Invariant.{IsGood, IsSafeState}
use Rattle.burr_frames.proofs.Common.FineVerdicts.{held, found}
use Rattle.burr_code.proofs.Common.Reading.{one_stands_at}
use Rattle.burr_bench.proofs.Soundness.StepOutcomes.{FallsOn, SentOn, Carries}
use Rattle.burr_bench.proofs.Soundness.Failing.{goes_past, goes_with}
use Rattle.burr_bench.proofs.Soundness.Judged.{Judged}
use Rattle.burr_bench.proofs.Soundness.Mapped.{map_at}
use Rattle.burr_bench.proofs.Soundness.Operands.{sound_push, sound_load, sound_store, sound_add, sound_sub, sound_drop, room_for}
use Rattle.burr_bench.proofs.Soundness.Pieces.{sound_grip, sound_step, sound_aside, sound_tray, sound_halt}
use Rattle.burr_bench.proofs.Soundness.Branches.{sound_jump, sound_down, sound_pick, labelled_bare}
use Rattle.burr_bench.proofs.Soundness.Asks.{sound_ask}
use Rattle.burr_bench.proofs.Soundness.Returns.{sound_ret}
use Rattle.burr_bench.proofs.Soundness.CallSteps.{sound_call}
use Rattle.burr_bench.proofs.Soundness.Landing.{AreTidy, Lands, judged_here, within_budget, land_after, land_at_label, land_apart, land_in_callee, has_caller, land_in_caller}

-- where the run goes on its pieces lie well
landed : (homes : List (List Cell)) (plan : FramedPlan) (b new : BenchState) (motion : Option Motion)
    → IsGood homes b.places b.tray b.grip → StepsTo (framed_setup plan homes) b new → Lands homes plan (Goes new motion)
    → IsSafeState homes plan new ⊎ HasEnded plan.budget new
landed homes plan b new motion good step (inl so) = inl (so (record {
  no_overlap = no_overlap_stays (framed_setup plan homes) b new step good.gripped good.no_overlap;
  gripped = grip_stays (framed_setup plan homes) b new step good.gripped;
  no_lone = none_lone_stays (framed_setup plan homes) b new step good.gripped good.no_lone;
}))
landed homes plan b new motion good step (inr ended) = inr ended

module _ (homes : List (List Cell)) (plan : FramedPlan) (ok : HasFraming homes plan) (tidy : AreTidy plan)
    (b : BenchState) (safe : IsSafeState homes plan b) where
  abbrev setup : Setup
  setup = framed_setup plan homes

  abbrev j : Judged homes plan b.running.procedure safe.here safe.row (slice_get safe.rows (suc safe.k))
  j = judged_here homes plan ok tidy b safe

  as_many : (pc : ℕ) (f : Frame) → IsLabelled safe.here pc f → length f.slots ≡ length safe.row.state.slots
  as_many pc f labelled = ok.eight b.running.procedure safe.here safe.here_is pc f labelled ∙ sym j.tidy.eight

  has_slot : (k : ℕ) → k < 8 → k < length safe.row.state.slots
  has_slot k small = subst (λ m. k < m) (sym j.tidy.eight) small

  -- the instruction at which it stands is that of the cut
  at_row : (there : BenchProcedure) (i : Instruction) → IsAt setup b there i
      → (bench_part safe.here ≡ there) × (safe.row.instruction ≡ i)
  at_row there i at =
      let same = same_Some _ _ (sym (map_at bench_part plan.procedures b.running.procedure safe.here safe.here_is) ∙ at.0) in (
        same,
        one_stands_at safe.here.code b.running.pc safe.row.instruction i (rw safe.pc j.stands_at)
            (subst (λ (p : BenchProcedure). StandsAt p.code b.running.pc i) (sym same) at.1),
      )

  module _ (next : Next) where
    asks : (low high : ℤ) → next ≡ Asks low high → Lands homes plan next
    asks low high e = subst (Lands homes plan) (sym e) tt

    falls : (i : Instruction) → safe.row.instruction ≡ i
        → FallsOn safe.here i safe.row.state safe.point b j.verdict next → Lands homes plan next
    falls i is f = land_after homes plan ok tidy b safe i next is f

    sent : SentOn safe.here safe.row.state safe.point b next → Lands homes plan next
    sent f = land_at_label homes plan ok tidy b safe next f

    lands : (i : Instruction) → safe.row.instruction ≡ i → IsInRange i
        → Transfer homes plan b.running.procedure safe.here safe.row.state i j.verdict
        → Executes setup (bench_part safe.here) b i next → Lands homes plan next
    lands Halt is range t rule =
        let a = sound_halt safe.here safe.row.state safe.point b j.verdict next j.fine safe.stands t rule refl in
        land_apart homes plan ok tidy b safe next a.0 a.1
    lands (Push x) is range t rule =
        falls (Push x) is (sound_push safe.here safe.row.state safe.point b j.verdict next j.fine safe.stands x t rule)
    lands (Load k) is range t rule =
        falls (Load k) is (sound_load safe.here safe.row.state safe.point b j.verdict next j.fine safe.stands k t rule)
    lands (Store k) is range t rule =
        falls (Store k) is (sound_store safe.here safe.row.state safe.point b j.verdict next j.fine safe.stands k (has_slot k range) t rule)
    lands Add is range t rule =
        falls Add is (sound_add safe.here safe.row.state safe.point b j.verdict next j.fine safe.stands t rule)
    lands Sub is range t rule =
        falls Sub is (sound_sub safe.here safe.row.state safe.point b j.verdict next j.fine safe.stands t rule)
    lands Drop is range t rule =
        falls Drop is (sound_drop safe.here safe.row.state safe.point b j.verdict next j.fine safe.stands t rule)
    lands (Grip group) is range t rule =
        falls (Grip group) is (sound_grip safe.here safe.row.state safe.point b j.verdict next j.fine safe.stands group t rule)
    lands (Step direction) is range t rule =
        falls (Step direction) is (sound_step safe.here safe.row.state safe.point b j.verdict next j.fine safe.stands homes plan direction safe.good.no_overlap t rule)
    lands (Aside direction tray) is range t rule =
        falls (Aside direction tray) is (sound_aside safe.here safe.row.state safe.point b j.verdict next j.fine safe.stands homes plan direction tray t rule)
    lands (Tray tray) is range t rule =
        falls (Tray tray) is (sound_tray safe.here safe.row.state safe.point b j.verdict next j.fine safe.stands tray t rule)
    lands (Jump label) is range t rule =
        sent (sound_jump safe.here safe.row.state safe.point b j.verdict next j.fine safe.stands as_many label t rule)
    lands (Down k label) is range t rule =
        elim (sound_down safe.here safe.row.state safe.point b j.verdict next j.fine safe.stands as_many k label (has_slot k range.0) t rule) [
          | inl after ↦ falls (Down k label) is after
          | inr there ↦ sent there
        ]
    lands (Ask low high) is range t rule =
        asks _ _ (goes_past (room_for safe.here safe.row.state safe.point b j.verdict next j.fine safe.stands (held j.fine t).0) rule)
    lands (Pick labels) is range t rule =
        let to = found j.fine t in asks _ _ (goes_with (labelled_bare safe.here.labels labels to.0 to.1) rule)
    lands (Call q) is range t rule =
        land_in_callee homes plan ok tidy b safe q next is (sound_call homes plan q safe.row.state safe.point b j.verdict next
        (λ there entry at first. let e = ok.entry q there entry at first in (e.1, ok.eight q there at 0 entry e.0))
        j.tidy j.fine t safe.stands rule)
    lands Ret is range t rule =
        let exit = found j.fine t in
        let up = has_caller homes plan ok tidy b safe b.callers safe.callers (λ e. none-some _ (sym e ∙ exit.1)) in
        land_in_caller homes plan ok tidy b safe next up.0 up.1 up.3
        (sound_ret homes plan safe.here safe.parameters safe.row.state safe.point b j.verdict next up.0 up.1 up.2 up.3.1
        safe.parameters_are j.fine t safe.stands rule)

    lands_next : NextIs setup b next → Lands homes plan next
    lands_next (inl n) =
        let at = at_row n.0 n.1 n.2 in
        let rule = subst (λ p. Executes setup p b n.1 next) (sym at.0) n.3 in
        lands safe.row.instruction refl j.stands_at.in_range j.transfer
        (subst (λ i. Executes setup (bench_part safe.here) b i next) (sym at.1) rule)
    lands_next (inr n) =
        absurd (n.0 (bench_part safe.here) safe.row.instruction (
          map_at bench_part plan.procedures b.running.procedure safe.here safe.here_is,
          rw safe.pc j.stands_at,
        ))

  -- an answer that fits
  taken : (i : Instruction) → safe.row.instruction ≡ i
      → Transfer homes plan b.running.procedure safe.here safe.row.state i j.verdict → (low high x : ℤ) (new : BenchState)
      → Executes setup (bench_part safe.here) b i (Asks low high) → Fits low high x → Takes (bench_part safe.here) b i x new
      → Lands homes plan (Goes new None)
  taken (Ask l h) is t low high x new rule fits takes =
      let e = goes_past (room_for safe.here safe.row.state safe.point b j.verdict (Asks low high) j.fine safe.stands (held j.fine t).0) rule in
      let low_is : low ≡ l = cc e in
      let high_is : high ≡ h = cc e in
      falls (Goes new None) (Ask l h) is (sound_ask safe.here safe.row.state safe.point b j.verdict _ j.fine safe.stands j.tidy l h x t
      (subst (λ k. k ≤ℤ x) low_is fits.0, subst (λ k. x ≤ℤ k) high_is fits.1) (ap (λ (y : BenchState). Goes y None) takes))
  taken (Pick labels) is t low high x new rule fits takes =
      sent (Goes new None) (sound_pick safe.here safe.row.state safe.point b j.verdict _ j.fine safe.stands as_many labels t x new takes refl)
  taken i is t low high x new rule fits takes = absurd takes

  lands_taken : (x : ℤ) (new : BenchState) → TakesAnswer setup b x new → Lands homes plan (Goes new None)
  lands_taken x new (there, i, low, high, at, rule, fits, takes) =
      let is = at_row there i at in
      taken i is.1 (subst (λ (i : Instruction). Transfer homes plan b.running.procedure safe.here safe.row.state i j.verdict) is.1 j.transfer)
      low high x new (subst (λ p. Executes setup p b i (Asks low high)) (sym is.0) rule) fits
      (subst (λ p. Takes p b i x new) (sym is.0) takes)

-- The fact is carried on by every step.
pub carries : (homes : List (List Cell)) (plan : FramedPlan) → HasFraming homes plan
    → AreTidy plan → Carries (framed_setup plan homes) plan.budget (IsSafeState homes plan)
carries homes plan ok tidy = record {
  running = λ b safe. (safe.mode, within_budget homes plan ok tidy b safe);
  no_trap = λ b trap safe n. lands_next homes plan ok tidy b safe (Traps trap) n;
  goes = λ b new motion safe n. landed homes plan b new motion safe.good (inl (motion, n)) (lands_next homes plan ok tidy b safe (Goes new motion) n);
  answers = λ b new x safe a. landed homes plan b new None safe.good (inr (x, a)) (lands_taken homes plan ok tidy b safe x new a);
}
