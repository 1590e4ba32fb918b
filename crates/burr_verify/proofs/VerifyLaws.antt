-- The laws of the judgement of plans: nothing is wrong exactly where a plan is well framed, and a refusal names the first
-- check that fails.
use Rattle.std.proofs.Common.{◌≡◌, ◌⊎◌, ℕ, zero, suc, ◌+◌, ◌<◌, List, [], ◌∷◌, length, Some, refl, sym, subst, inl, inr, arith}
use Rattle.std.specs.Prelude.{◌↔◌, slice_get}
use Rattle.std.proofs.lemmas.Option.{none-some, same_Some, slice_get_within}
use Rattle.burr_voxels.specs.declared.cell.Cell.{Cell}
use Rattle.burr_frames.specs.Rules.FramedPlans.{FramedProcedure, FramedPlan}
use Rattle.burr_verify.specs.Rules.Pass.{Judgement, Passed, Refuses, FailedCheck, pass_start, AllLaidOut, Pass}
use Rattle.burr_verify.specs.Rules.Judging.{judging_code, passes, Judging}
use Rattle.burr_verify.specs.Rules.WellFramed.{IsWellFramed}
use Rattle.burr_verify.specs.Laws.VerifyLaws.{OnePass, PassIsCut, RefusalIsFirst, JudgingIsFraming, RefusedInCode, CodeRefusalIsFirst, JudgingRefuses, RefusedBefore, HoldsBefore}
use Rattle.burr_verify.proofs.OnePass.{one_frame, one_judgement}
use Rattle.burr_verify.proofs.PassCuts.{cut_of_pass, failure_of_refusal, pass_of_cut, refusal_of_failure, refuses-passed}
use Rattle.burr_verify.proofs.SomePass.{some_judgement}
use Rattle.burr_verify.proofs.Before.{checks_before, part_after, part_refuses, part_so, part_splits, part_where}
use Rattle.burr_verify.proofs.Looking.{judging_is_one}

pub pass_is_one : OnePass
pass_is_one homes plan n here laid =
    (some_judgement homes plan n here, λ j k. one_judgement homes plan n here (one_frame here laid) pass_start j k)

pub pass_is_cut : PassIsCut
pass_is_cut homes plan n here laid =
    (cut_of_pass homes plan n here laid, λ cut. pass_of_cut homes plan n here cut.0 cut.1)

pub refusal_is_first : RefusalIsFirst
refusal_is_first homes plan n here r laid =
    (failure_of_refusal homes plan n here r laid, refusal_of_failure homes plan n here r)

-- The code

module _ (homes : List (List Cell)) (plan : FramedPlan) where
  -- the pass of procedure n
  abbrev PassAt : ℕ → Judgement → FramedProcedure → Type 0
  PassAt n j here = Pass homes plan n here pass_start j

  renumbered : (a b : ℕ) (j : Judgement) (here : FramedProcedure) → a ≡ b → PassAt a j here → PassAt b j here
  renumbered a b j here e pass = subst (λ (n : ℕ). PassAt n j here) e pass

  -- of these procedures, numbered from n, the first k pass
  abbrev PassBelow : ℕ → ℕ → List FramedProcedure → Type 0
  PassBelow k n procedures =
      (m : ℕ) (there : FramedProcedure) → m < k → slice_get procedures m ≡ Some there → PassAt (n + m) Passed there

  one_more : (k n : ℕ) (here : FramedProcedure) (procedures : List FramedProcedure) → PassAt n Passed here
      → PassBelow k (suc n) procedures → PassBelow (suc k) n (here ∷ procedures)
  one_more k n here procedures pass all zero there below e =
      renumbered n (n + 0) Passed there (omega arith) (subst (λ (p : FramedProcedure). PassAt n Passed p) (same_Some here there e) pass)
  one_more k n here procedures pass all (suc m) there below e =
      renumbered (suc n + m) (n + suc m) Passed there (omega arith) (all m there (omega (arith, below)) e)

  one_less : (k n : ℕ) (here : FramedProcedure) (procedures : List FramedProcedure)
      → PassBelow (suc k) n (here ∷ procedures) → PassBelow k (suc n) procedures
  one_less k n here procedures all m there below e =
      renumbered (n + suc m) (suc n + m) Passed there (omega arith) (all (suc m) there (omega (arith, below)) e)

  code_good : (n : ℕ) (procedures : List FramedProcedure) → judging_code homes plan n procedures passes Passed
      → PassBelow (length procedures) n procedures
  code_good n [] judged m there below e = absurd (none-some there e)
  code_good n (here ∷ procedures) (Refuses r, pass, stopped) m there below e = absurd (refuses-passed r (sym stopped))
  code_good n (here ∷ procedures) (Passed, pass, more) m there below e =
      one_more (length procedures) n here procedures pass (code_good (suc n) procedures more) m there below e

  code_judged : (n : ℕ) (procedures : List FramedProcedure) → PassBelow (length procedures) n procedures
      → judging_code homes plan n procedures passes Passed
  code_judged n [] all = refl
  code_judged n (here ∷ procedures) all = (
    Passed,
    renumbered (n + 0) n Passed here (omega arith) (all 0 here (omega arith) refl),
    code_judged (suc n) procedures (one_less (length procedures) n here procedures all),
  )

  -- among these procedures, numbered from n, the first whose pass refuses
  abbrev FirstRefused : ℕ → List FramedProcedure → FailedCheck → Type 0
  FirstRefused n procedures r =
      (k : ℕ) × (here : FramedProcedure) × (slice_get procedures k ≡ Some here) × PassBelow k n procedures
      × PassAt (n + k) (Refuses r) here

  first_refused : (n : ℕ) (procedures : List FramedProcedure) (r : FailedCheck)
      → judging_code homes plan n procedures passes (Refuses r) → FirstRefused n procedures r
  first_refused n [] r judged = absurd (refuses-passed r judged)
  first_refused n (here ∷ procedures) r (Refuses own, pass, is) = (
    0,
    here,
    refl,
    (λ m there below e. absurd (omega (arith, below))),
    renumbered n (n + 0) (Refuses r) here (omega arith) (subst (λ (j : Judgement). PassAt n j here) (sym is) pass),
  )
  first_refused n (here ∷ procedures) r (Passed, pass, more) =
      let later = first_refused (suc n) procedures r more in (
        suc later.0,
        later.1,
        later.2,
        one_more later.0 n here procedures pass later.3,
        renumbered (suc n + later.0) (n + suc later.0) (Refuses r) later.1 (omega arith) later.4,
      )

  refused_first : (n : ℕ) (procedures : List FramedProcedure) (r : FailedCheck) (k : ℕ) (here : FramedProcedure)
      → slice_get procedures k ≡ Some here → PassBelow k n procedures → PassAt (n + k) (Refuses r) here
      → judging_code homes plan n procedures passes (Refuses r)
  refused_first n [] r k here e earlier pass = absurd (none-some here e)
  refused_first n (first ∷ procedures) r zero here e earlier pass = (
    Refuses r,
    renumbered (n + 0) n (Refuses r) first (omega arith)
        (subst (λ (p : FramedProcedure). PassAt (n + 0) (Refuses r) p) (sym (same_Some first here e)) pass),
    refl,
  )
  refused_first n (first ∷ procedures) r (suc k) here e earlier pass = (
    Passed,
    renumbered (n + 0) n Passed first (omega arith) (earlier 0 first (omega arith) refl),
    refused_first (suc n) procedures r k here e (one_less k n first procedures earlier)
        (renumbered (n + suc k) (suc n + k) (Refuses r) here (omega arith) pass),
  )

code_refusal_is_first : CodeRefusalIsFirst
code_refusal_is_first homes plan r laid = (
  (λ judged.
      (let first = first_refused homes plan 0 plan.procedures r judged in (
        first.0,
        first.1,
        first.2,
        (λ m there below e. cut_of_pass homes plan m there (laid m there e)
            (renumbered homes plan (0 + m) m Passed there (omega arith) (first.3 m there below e))),
        failure_of_refusal homes plan first.0 first.1 r (laid first.0 first.1 first.2)
            (renumbered homes plan (0 + first.0) first.0 (Refuses r) first.1 (omega arith) first.4),
      ))),
  (λ f. refused_first homes plan 0 plan.procedures r f.0 f.1 f.2
      (λ m there below e. (let cut = f.3 m there below e in
      renumbered homes plan m (0 + m) Passed there (omega arith) (pass_of_cut homes plan m there cut.0 cut.1)))
      (renumbered homes plan f.0 (0 + f.0) (Refuses r) f.1 (omega arith) (refusal_of_failure homes plan f.0 f.1 r f.4))),
)

-- The whole

framed_where_passed : (name : List ℕ) (homes : List (List Cell)) (plan : FramedPlan) → AllLaidOut plan
    → Judging name homes plan Passed → IsWellFramed name homes plan
framed_where_passed name homes plan laid judged =
    let all = part_so (checks_before name homes plan) (judging_code homes plan 0 plan.procedures passes) judged in
    let code = code_good homes plan 0 plan.procedures all.1 in
    record {
      same_name = all.0.0.0;
      same_count = all.0.0.1;
      each =
          λ n here is. (let good = all.0.1.0 n here is in
          record {
            exit = good.exit;
            entry = good.entry;
            frames = good.frames;
            cut =
                cut_of_pass homes plan n here (laid n here is)
                (renumbered homes plan (0 + n) n Passed here (omega arith)
                (code n here (slice_get_within plan.procedures n here is) is));
          });
      start = all.0.1.1;
    }

pub passed_where_framed : (name : List ℕ) (homes : List (List Cell)) (plan : FramedPlan) → IsWellFramed name homes plan
    → Judging name homes plan Passed
passed_where_framed name homes plan well =
    part_where (checks_before name homes plan) (
      (well.same_name, well.same_count),
      (
        (λ n here is. (let framed = well.each n here is in
            record { exit = framed.exit; entry = framed.entry; frames = framed.frames })),
        well.start,
      ),
    ) (judging_code homes plan 0 plan.procedures passes) Passed
    (code_judged homes plan 0 plan.procedures (λ n here below is. (let framed = well.each n here is in
    renumbered homes plan n (0 + n) Passed here (omega arith) (pass_of_cut homes plan n here framed.cut.0 framed.cut.1))))

pub judging_is_framing : JudgingIsFraming
judging_is_framing name homes plan laid =
    (framed_where_passed name homes plan laid, passed_where_framed name homes plan)

pub judging_refuses : JudgingRefuses
judging_refuses name homes plan r laid = (to, back)
  where
    to : Judging name homes plan (Refuses r) → RefusedBefore name homes plan r
        ⊎ (HoldsBefore name homes plan × RefusedInCode homes plan r)
    to judged =
        elim (part_splits (checks_before name homes plan) (judging_code homes plan 0 plan.procedures passes) (Refuses r) judged) [
          | inl before ↦ inl before
          | inr after ↦ inr (after.0, (code_refusal_is_first homes plan r laid).0 after.1)
        ]

    back : RefusedBefore name homes plan r ⊎ (HoldsBefore name homes plan × RefusedInCode homes plan r)
        → Judging name homes plan (Refuses r)
    back (inl before) =
        part_refuses (checks_before name homes plan) (Refuses r) before (judging_code homes plan 0 plan.procedures passes)
    back (inr (holds, code)) =
        part_after (checks_before name homes plan) holds (judging_code homes plan 0 plan.procedures passes) (Refuses r)
        ((code_refusal_is_first homes plan r laid).1 code)

-- A judgement is that nothing is wrong exactly where the plan is well framed.
pub passed_exactly : (name : List ℕ) (homes : List (List Cell)) (plan : FramedPlan) (j : Judgement) → AllLaidOut plan
    → Judging name homes plan j → (j ≡ Passed) ↔ IsWellFramed name homes plan
passed_exactly name homes plan j laid judged = (
  λ e. framed_where_passed name homes plan laid (subst (λ (k : Judgement). Judging name homes plan k) e judged),
  λ framed. (judging_is_one name homes plan laid).1 j Passed judged (passed_where_framed name homes plan framed),
)
