use Rattle.std.proofs.Common.{◌≡◌, ℕ, ◌+◌, List, Some, refl, sym, ap, subst, ◌∙◌, arith}
use Rattle.std.specs.Prelude.{slice_get}
use Rattle.std.proofs.lemmas.Result.{err_from_is_err_and}
use Rattle.burr_voxels.specs.declared.cell.Cell.{Cell}
use Rattle.burr_assembly.specs.Rules.Homes.{homes_of}
use Rattle.burr_blocking.specs.Rules.Counted.{Counted, HasCounted}
use Rattle.burr_container.specs.declared.procedure_ref.ProcedureRef.{ProcedureRef}
use Rattle.burr_container.specs.Views.Containers.{ContainerView}
use Rattle.burr_container.specs.Views.Lent.{IsLent}
use Rattle.burr_frames.proofs.Common.Heres.{lent_is, lent_at}
use Rattle.burr_frames.specs.Rules.FramedPlans.{FramedProcedure, FramedPlan, framed_plan}
use Rattle.burr_verify.specs.Views.LookViews.{LooksFrom}
use Rattle.burr_verify.specs.Rules.Pass.{Judgement, Passed, Refuses, FailedCheck, pass_start}
use Rattle.burr_verify.specs.Rules.PassLooks.{LookedPass, looking_code}
use Rattle.burr_verify.proofs.FewLooks.{rooms_of_frames}
use Rattle.burr_verify.proofs.JudgedOn.{here_at, past_all}
use Rattle.burr_verify.proofs.LookedOn.{code_looks_none, code_looks_on, code_looks_stop, code_looks_end}
use Rattle.burr_verify.proofs.judging.judge_all_code.Goals as goal

-- A procedure more, where the looks of its pass are counted after those so far; the assembly is the same
module _ (homes : List (List Cell)) (plan : FramedPlan) (i : ℕ) (here : FramedProcedure) where
  code_on_counted : slice_get plan.procedures i ≡ Some here → (mid new : Counted) → homes_of mid.assembly ≡ homes
      → HasCounted (LookedPass (homes_of mid.assembly) plan i here pass_start Passed) mid new
      → LooksFrom homes plan i mid.count → LooksFrom homes plan (i + 1) new.count
  code_on_counted at mid new same (own, pass, e) from =
      subst (λ (n : ℕ). LooksFrom homes plan (i + 1) n) (sym (ap (λ (l : Counted). l.count) e))
      (code_looks_on homes plan i here mid.count own at
      (subst (λ (hs : List (List Cell)). LookedPass hs plan i here pass_start Passed own) same pass) from)

  code_stop_counted : (r : FailedCheck) → slice_get plan.procedures i ≡ Some here → (mid new : Counted)
      → homes_of mid.assembly ≡ homes
      → HasCounted (LookedPass (homes_of mid.assembly) plan i here pass_start (Refuses r)) mid new
      → LooksFrom homes plan i mid.count → looking_code homes plan 0 plan.procedures (Refuses r) new.count
  code_stop_counted r at mid new same (own, pass, e) from =
      subst (λ (n : ℕ). looking_code homes plan 0 plan.procedures (Refuses r) n)
      (sym (ap (λ (l : Counted). l.count) e))
      (code_looks_stop homes plan i here mid.count own r at
      (subst (λ (hs : List (List Cell)). LookedPass hs plan i here pass_start (Refuses r) own) same pass) from)

-- the pass of a procedure that is lent, by its number
counted_lent : (kept : ContainerView) (n : ℕ) (r : ProcedureRef) (here : FramedProcedure) (plan : FramedPlan) (j : Judgement)
    (old new : Counted) → IsLent kept n r
    → HasCounted (LookedPass (homes_of old.assembly) plan r.number here pass_start j) old new
    → HasCounted (LookedPass (homes_of old.assembly) plan n here pass_start j) old new
counted_lent kept n r here plan j old new lent counted =
    subst (λ (m : ℕ). HasCounted (LookedPass (homes_of old.assembly) plan m here pass_start j) old new) lent.number counted

pub loop-number-init : goal.loop-number-init
loop-number-init g c = (
  (λ p is. subst (λ (n : ℕ). LooksFrom (homes_of c.args.looks.now.assembly) (framed_plan p) 0 n) (sym c.requires.none)
      (code_looks_none (homes_of c.args.looks.now.assembly) (framed_plan p))),
  omega (arith, c.requires.none),
  refl,
)

pub judge_code-requires-clause-framed : goal.judge_code-requires-clause-framed
judge_code-requires-clause-framed g c =
    let has = c.a_container_has_a_plan.ensures.plan in
    let kept = c.args.container.now in
    let n = c.loop-number.number in
    let r = c.procedure.result in
    let here = here_at has.0 n (omega (arith, c.loop-number-test.true, c.proc_count-number-end.ensures.plan has.0 has.2)) in (
      has.0,
      here.0,
      lent_is kept n r has.0 c.procedure.ensures has.2,
      lent_at (framed_plan has.0).procedures kept n r here.0 c.procedure.ensures here.1,
      rooms_of_frames (framed_plan has.0) (c.requires.framed has.0 has.2) n here.0 here.1,
    )

pub returns-in_err-judge_code-clause-looked : goal.returns-in_err-judge_code-clause-looked
returns-in_err-judge_code-clause-looked g c =
    let e = err_from_is_err_and c.from_residual.result c.from_residual.ensures.1 in
    rw (e.1, e.2)
    (λ p is. (let here = here_at p c.loop-number.number (omega (arith, c.loop-number-test.true, c.proc_count-number-end.ensures.plan p is)) in
    code_stop_counted (homes_of c.args.looks.now.assembly) (framed_plan p) c.loop-number.number here.0 _ here.1
    c.loop-number.looks c.judge_code.new.looks (ap homes_of c.loop-number.invariant.2)
    (counted_lent c.args.container.now c.loop-number.number c.procedure.result here.0 _ _ c.loop-number.looks c.judge_code.new.looks c.procedure.ensures
    (c.in_err-judge_code.ensures.passed p here.0 (lent_is c.args.container.now c.loop-number.number c.procedure.result p c.procedure.ensures is)
    (lent_at (framed_plan p).procedures c.args.container.now c.loop-number.number c.procedure.result here.0 c.procedure.ensures here.1)))
    (c.loop-number.invariant.0 p is)))

pub loop-number-preserved : goal.loop-number-preserved
loop-number-preserved g c = (
  (λ p is. (let here = here_at p c.loop-number.number (omega (arith, c.loop-number-test.true, c.proc_count-number-end.ensures.plan p is)) in
      code_on_counted (homes_of c.args.looks.now.assembly) (framed_plan p) c.loop-number.number here.0 here.1
      c.loop-number.looks c.judge_code.new.looks (ap homes_of c.loop-number.invariant.2)
      (counted_lent c.args.container.now c.loop-number.number c.procedure.result here.0 _ _ c.loop-number.looks c.judge_code.new.looks c.procedure.ensures
      (c.in_ok-judge_code.ensures.passed p here.0 (lent_is c.args.container.now c.loop-number.number c.procedure.result p c.procedure.ensures is)
      (lent_at (framed_plan p).procedures c.args.container.now c.loop-number.number c.procedure.result here.0 c.procedure.ensures here.1)))
      (c.loop-number.invariant.0 p is))),
  (let few = c.in_ok-judge_code.ensures.few in let so_far = c.loop-number.invariant.1 in omega (arith, few, so_far)),
  c.in_ok-judge_code.ensures.same ∙ c.loop-number.invariant.2,
)

pub returns-clause-looked : goal.returns-clause-looked
returns-clause-looked g c =
    λ p is. code_looks_end (homes_of c.args.looks.now.assembly) (framed_plan p) c.loop-number.number c.loop-number.looks.count
    (past_all p c.loop-number.number (omega (arith, c.loop-number-test.false, c.proc_count-number-end.ensures.plan p is)))
    (c.loop-number.invariant.0 p is)
