-- The start of a plan, judged against main's entry frame as its container gives it.
use Rattle.std.proofs.Common.{◌≡◌, ℕ, ◌<◌, ◌≤◌, List, [], ◌∷◌, length, Some, None, refl, sym, ap, subst, ◌∙◌, inl, inr, arith}
use Rattle.std.specs.Prelude.{ℤ, int_lt, pos, ◌≤ℤ◌, ⊤, Result, Ok, Err, true, false, map, slice_get}
use Rattle.std.specs.Result.{is_err}
use Rattle.std.proofs.lemmas.Int.{ints}
use Rattle.std.proofs.lemmas.Option.{none-some, same_Some}
use Rattle.std.proofs.lemmas.Bool.{false≢true}
use Rattle.burr_voxels.specs.declared.cell.Cell.{Cell}
use Rattle.burr_forms.specs.Rules.Forms.{Form, dot, value, values}
use Rattle.burr_container.specs.Rules.Plans.{Plan, PlanProcedure, Frame}
use Rattle.burr_frames.specs.declared.rule.Rule.{Rule}
use Rattle.burr_frames.specs.declared.rule.Rule.TheVariants as rules
use Rattle.burr_frames.specs.declared.state.meeting.Miss.{Miss}
use Rattle.burr_frames.specs.Rules.Arrival.{Agrees, Meets}
use Rattle.burr_frames.specs.Rules.ControlRules.{first_frame, entry_of}
use Rattle.burr_frames.specs.Views.Exits.{miss_verdict}
use Rattle.burr_frames.specs.Rules.FramedPlans.{FramedProcedure, FramedPlan, framed, framed_label, framed_plan}
use Rattle.burr_frames.specs.Rules.Starts.{start_state}
use Rattle.burr_frames.specs.Rules.States.{AbstractState, state_of}
use Rattle.burr_frames.specs.Rules.Verdicts.{Broken, Breaks, NoSuccessor, meeting, no_successor}
use Rattle.burr_verify.specs.Rules.Judging.{judging_start, passes}
use Rattle.burr_verify.specs.Rules.Pass.{Passed, Refuses}
use Rattle.burr_verify.specs.Views.Refusals.{plain_refusal}
use Rattle.burr_verify.specs.Rules.Judging.{nothing}
use Rattle.burr_verify.specs.Views.Judgements.{failed_check}
use Rattle.burr_frames.proofs.Common.Heres.{procedure_here}
use Rattle.burr_verify.proofs.JudgedOn.{here_at}
use Rattle.burr_verify.proofs.OnePass.{breaks-no_successor}

-- What the comparison of the start with a frame says

meets_where_leaves : (s : AbstractState) (f : Frame) (rule : Rule) → meeting s f rule (λ _. no_successor) NoSuccessor
    → Meets s f
meets_where_leaves s f rule (inl h) = absurd (breaks-no_successor _ h.1)
meets_where_leaves s f rule (inr (forms, known, inl h)) = absurd (breaks-no_successor _ h.1)
meets_where_leaves s f rule (inr (forms, known, inr (alike, inl h))) = absurd (breaks-no_successor _ h.2)
meets_where_leaves s f rule (inr (forms, known, inr (alike, inr h))) =
    record { forms = forms; known = known; alike = alike; agrees = h.0 }

misses_where_breaks : (s : AbstractState) (f : Frame) (rule : Rule) (b : Broken)
    → meeting s f rule (λ _. no_successor) (Breaks b) → ¬ Meets s f
misses_where_breaks s f rule b (inl h) m = none-some _ (sym h.0 ∙ m.known)
misses_where_breaks s f rule b (inr (forms, known, inl h)) m = h.0 m.alike
misses_where_breaks s f rule b (inr (forms, known, inr (alike, inl h))) m =
    h.1.fails
    (subst (λ (fs : List Form). Agrees s h.0 (state_of f) (values h.0 fs)) (same_Some m.forms forms (sym m.known ∙ known))
    (m.agrees h.0 h.1.is_point))
misses_where_breaks s f rule b (inr (forms, known, inr (alike, inr h))) m = absurd (breaks-no_successor b (sym h.1))

pub meets_where_ok : (s : AbstractState) (f : Frame) (rule : Rule) (result : Result ⊤ Miss)
    → meeting s f rule (λ _. no_successor) (miss_verdict rule result) → is_err result ≡ false → Meets s f
meets_where_ok s f rule (Ok u) met ok = meets_where_leaves s f rule met
meets_where_ok s f rule (Err miss) met ok = absurd (false≢true (sym ok))

pub misses_where_err : (s : AbstractState) (f : Frame) (rule : Rule) (result : Result ⊤ Miss)
    → meeting s f rule (λ _. no_successor) (miss_verdict rule result) → is_err result ≡ true → ¬ Meets s f
misses_where_err s f rule (Ok u) met err = absurd (false≢true err)
misses_where_err s f rule (Err miss) met err = misses_where_breaks s f rule _ met

-- Main's entry frame

-- the entry frame of main, as it stands in the plan
pub record HasEntry (plan : FramedPlan) (f : Frame) : Type 0 where
  pub main : FramedProcedure
  pub is_main : slice_get plan.procedures 0 ≡ Some main
  pub is_entry : entry_of main ≡ Some f

some_label : (labels : List (ℕ × Frame)) → 0 < length labels → (l : ℕ × Frame) × (slice_get labels 0 ≡ Some l)
some_label [] some = absurd (omega (arith, some))
some_label (l ∷ labels) some = (l, refl)

entry_at : (labels : List (ℕ × Frame)) (l : ℕ × Frame) → slice_get labels 0 ≡ Some l
    → first_frame (map framed_label labels) ≡ Some (framed l.1)
entry_at [] l e = absurd (none-some l e)
entry_at (first ∷ labels) l e = ap (λ (x : ℕ × Frame). Some (framed x.1)) (same_Some first l e)

pub has_entry : (p : Plan) (f : Frame) → 1 ≤ length p.procedures
    → ((q : PlanProcedure) → slice_get p.procedures 0 ≡ Some q → 0 < length q.labels)
    → ((q : PlanProcedure) → slice_get p.procedures 0 ≡ Some q → (l : ℕ × Frame) → slice_get q.labels 0 ≡ Some l
    → f ≡ l.1)
    → HasEntry (framed_plan p) (framed f)
has_entry p f some labels is =
    let here = here_at p 0 (omega (arith, some)) in
    let q = procedure_here p 0 here.0 here.1 in
    let l = some_label q.0.labels (labels q.0 q.1) in record {
      main = here.0;
      is_main = here.1;
      is_entry =
          ap entry_of q.2 ∙ entry_at q.0.labels l.0 l.1 ∙ ap (λ (g : Frame). Some (framed g)) (sym (is q.0 q.1 l.0 l.1));
    }

-- What is judged of the start

lacks_entry : (labels : List (ℕ × Frame)) → length labels ≡ 0 → first_frame (map framed_label labels) ≡ None
lacks_entry [] none = refl
lacks_entry (l ∷ labels) none = absurd (omega (arith, none))

pub start_lacks_entry : (homes : List (List Cell)) (p : Plan) → 1 ≤ length p.procedures
    → ((q : PlanProcedure) → slice_get p.procedures 0 ≡ Some q → length q.labels ≡ 0)
    → judging_start homes (framed_plan p) nothing (Refuses (failed_check (plain_refusal 0 0 rules.BadFrame)))
start_lacks_entry homes p some labels =
    let here = here_at p 0 (omega (arith, some)) in
    let q = procedure_here p 0 here.0 here.1 in
    inr (here.0, here.1, inl (ap entry_of q.2 ∙ lacks_entry q.0.labels (labels q.0 q.1), refl))

pub start_misses : (homes : List (List Cell)) (plan : FramedPlan) (f : Frame) → HasEntry plan f
    → (¬ Meets (start_state homes) f)
    → judging_start homes plan nothing (Refuses (failed_check (plain_refusal 0 0 rules.BadFrame)))
start_misses homes plan f entry misses =
    inr (entry.main, entry.is_main, inr (f, entry.is_entry, inl (misses, refl)))

pub start_too_dear : (homes : List (List Cell)) (plan : FramedPlan) (f : Frame) → HasEntry plan f
    → Meets (start_state homes) f → (¬ (value [] f.cost ≤ℤ pos plan.budget))
    → judging_start homes plan nothing (Refuses (failed_check (plain_refusal 0 0 rules.BudgetTooLow)))
start_too_dear homes plan f entry meets dear =
    inr (entry.main, entry.is_main, inr (f, entry.is_entry, inr (meets, inl (dear, refl))))

pub start_holds : (homes : List (List Cell)) (plan : FramedPlan) (f : Frame) → HasEntry plan f
    → Meets (start_state homes) f → value [] f.cost ≤ℤ pos plan.budget → judging_start homes plan passes Passed
start_holds homes plan f entry meets paid =
    inr (entry.main, entry.is_main, inr (f, entry.is_entry, inr (meets, inr (paid, refl))))

-- the value of a form where there are no symbols
pub value_nowhere : (f : Form) → value [] f ≡ f.constant
value_nowhere f = let e = none f.coefs in omega (arith, ints)
  where
    none : (coefs : List ℤ) → dot coefs [] ≡ pos 0
    none [] = refl
    none (c ∷ coefs) = refl

-- what it is by the constant that was read
pub cost_nowhere : (f : Form) (constant : ℤ) → constant ≡ f.constant → value [] f ≡ constant
cost_nowhere f constant e = value_nowhere f ∙ sym e

pub is_dear : (cost constant given : ℤ) (read budget : ℕ) → int_lt given constant ≡ true → cost ≡ constant
    → given ≡ pos read → read ≡ budget → ¬ (cost ≤ℤ pos budget)
is_dear cost constant given read budget less c g b le = omega (arith, ints)

pub is_paid : (cost constant given : ℤ) (read budget : ℕ) → int_lt given constant ≡ false → cost ≡ constant
    → given ≡ pos read → read ≡ budget → cost ≤ℤ pos budget
is_paid cost constant given read budget less c g b = omega (arith, ints)
