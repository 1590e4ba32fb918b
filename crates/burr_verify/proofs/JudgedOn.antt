-- What is judged from one procedure or label on gives what is judged from the first.
use Rattle.std.proofs.Common.{◌≡◌, ◌+◌, ◌<◌, ◌≤◌, ℕ, zero, suc, List, [], ◌∷◌, length, Option, Some, refl, sym, subst, ap, ◌∙◌, add-one}
use Rattle.std.specs.Prelude.{slice_get, drop}
use Rattle.std.proofs.lemmas.List.{drop_all, length-map}
use Rattle.burr_container.specs.declared.procedure_ref.ProcedureRef.{ProcedureRef}
use Rattle.burr_container.specs.Rules.Plans.{Plan, Frame}
use Rattle.burr_container.specs.Views.Containers.{ContainerView}
use Rattle.burr_container.specs.Views.Lent.{IsLent}
use Rattle.burr_frames.specs.declared.rule.Rule.{Rule}
use Rattle.burr_frames.specs.Rules.FramedPlans.{FramedExit, FramedProcedure, framed_procedure, framed_plan}
use Rattle.burr_frames.proofs.Common.Heres.{element_at}
use Rattle.burr_verify.specs.declared.refusal.Refusal.{Refusal}
use Rattle.burr_verify.specs.Rules.Judging.{Rest, judging_labels, judging_entry, judging_exit, nothing, passes}
use Rattle.burr_verify.specs.Rules.Pass.{Judgement, Passed, Refuses, FailedCheck, refused}
use Rattle.burr_verify.specs.Views.Forming.{judging_label}
use Rattle.burr_verify.specs.Views.Judgements.{PartFrom, failed_check}
use Rattle.burr_verify.specs.Views.Refusals.{plain_refusal}
use Rattle.burr_verify.proofs.Before.{Checks, checks_exit, one_framed, part_after, part_refuses}
use Rattle.burr_verify.proofs.LookedOn.{drop_at}

-- Of parts that are judged one after the other, `from` judges those from number k on, and `head` the first of them.
module _ {A : Type 0} (from : ℕ → List A → Rest → Rest) (head : ℕ → A → Rest → Rest)
    (joins : (k : ℕ) (x : A) (xs : List A) (rest : Rest) (a : Judgement) → head k x (from (suc k) xs rest) a
    → from k (x ∷ xs) rest a)
  where
    pub judged_on : {P : Type 0} (xs : List A) (k : ℕ) (x : A) (part : Rest → Rest) → Checks P (head k x)
        → slice_get xs k ≡ Some x → head k x passes Passed → PartFrom (from k (drop k xs)) part
        → PartFrom (from (k + 1) (drop (k + 1) xs)) part
    judged_on xs k x part checks e holds given =
        let later = from (suc k) (drop (suc k) xs) in
        let on : PartFrom (from k (x ∷ drop (suc k) xs)) part =
        subst (λ (ys : List A). PartFrom (from k ys) part) (drop_at xs k x e) given in
        subst (λ (n : ℕ). PartFrom (from n (drop n xs)) part) (sym (add-one k)) (
          (λ well. on.0 (joins k x _ passes Passed (part_after checks holds (later passes) Passed well))),
          (λ r well. on.1 r (joins k x _ nothing (Refuses r) (part_after checks holds (later nothing) (Refuses r) well))),
        )

    pub judged_stop : {P : Type 0} (xs : List A) (k : ℕ) (x : A) (part : Rest → Rest) (r : FailedCheck)
        → Checks P (head k x) → slice_get xs k ≡ Some x → head k x nothing (Refuses r)
        → PartFrom (from k (drop k xs)) part → part nothing (Refuses r)
    judged_stop xs k x part r checks e refused given =
        let on : PartFrom (from k (x ∷ drop (suc k) xs)) part =
        subst (λ (ys : List A). PartFrom (from k ys) part) (drop_at xs k x e) given in
        on.1 r (joins k x _ nothing (Refuses r)
        (part_refuses checks (Refuses r) refused (from (suc k) (drop (suc k) xs) nothing)))

    pub judged_end : (xs : List A) (k : ℕ) (part : Rest → Rest) → length xs ≤ k → from k [] passes Passed
        → PartFrom (from k (drop k xs)) part → part passes Passed
    judged_end xs k part past none given =
        let on : PartFrom (from k []) part = subst (λ (ys : List A). PartFrom (from k ys) part) (drop_all k xs past) given in
        on.0 none

-- Procedures

-- the frames of one that is lent, by its number
pub framed_lent : (kept : ContainerView) (n : ℕ) (r : ProcedureRef) (here : FramedProcedure) (rest : Rest) (a : Judgement)
    → IsLent kept n r → one_framed r.number here rest a → one_framed n here rest a
framed_lent kept n r here rest a lent judged = subst (λ (m : ℕ). one_framed m here rest a) lent.number judged

as_many : (p : Plan) → length (framed_plan p).procedures ≡ length p.procedures
as_many p = length-map p.procedures framed_procedure

-- the procedure that stands at a number of the plan
pub here_at : (p : Plan) (i : ℕ) → i < length p.procedures
    → (here : FramedProcedure) × (slice_get (framed_plan p).procedures i ≡ Some here)
here_at p i l = element_at (framed_plan p).procedures i (subst (λ (m : ℕ). i < m) (sym (as_many p)) l)

pub past_all : (p : Plan) (i : ℕ) → length p.procedures ≤ i → length (framed_plan p).procedures ≤ i
past_all p i l = subst (λ (m : ℕ). m ≤ i) (sym (as_many p)) l

-- Labels

-- the frames of these labels; the first of them is label k
abbrev pub judging_from : ℕ → ℕ → ℕ → List (ℕ × Frame) → Rest → Rest
judging_from n parameters zero labels = judging_entry n parameters labels
judging_from n parameters (suc k) labels = judging_labels n parameters labels

pub label_joins : (n parameters k : ℕ) (label : ℕ × Frame) (labels : List (ℕ × Frame)) (rest : Rest) (a : Judgement)
    → judging_label n parameters k label (judging_from n parameters (suc k) labels rest) a
    → judging_from n parameters k (label ∷ labels) rest a
label_joins n parameters zero label labels rest a judged = judged
label_joins n parameters (suc k) label labels rest a judged = judged

pub no_labels : (n parameters k : ℕ) → judging_from n parameters k [] passes Passed
no_labels n parameters zero = refl
no_labels n parameters (suc k) = refl

-- Exit frames

-- where that of a procedure holds, what its labels come to is what all frames come to
pub after_exit : (n parameters : ℕ) (exit : Option FramedExit) (labels : List (ℕ × Frame))
    → judging_exit n exit passes Passed
    → PartFrom (judging_from n parameters 0 labels) (λ rest. judging_exit n exit (judging_entry n parameters labels rest))
after_exit n parameters exit labels holds = (
  (λ well. part_after (checks_exit n exit) holds (judging_entry n parameters labels passes) Passed well),
  (λ r well. part_after (checks_exit n exit) holds (judging_entry n parameters labels nothing) (Refuses r) well),
)

-- that of the procedure is the one that is read
pub exit_read : (n : ℕ) (exit read : Option FramedExit) (rest : Rest) (a : Judgement) → exit ≡ read
    → judging_exit n read rest a → judging_exit n exit rest a
exit_read n exit read rest a e judged = subst (λ (x : Option FramedExit). judging_exit n x rest a) (sym e) judged

-- Refusals

-- a refusal that names nothing but the rule and the place
pub plainly_refused : (r : Refusal) (proc pc n at : ℕ) (rule : Rule) → r ≡ plain_refusal proc pc rule → proc ≡ n → pc ≡ at
    → Refuses (failed_check r) ≡ refused n at rule
plainly_refused r proc pc n at rule e f g =
    ap (λ (x : Refusal). Refuses (failed_check x)) e ∙ ap (λ (k : ℕ). refused k pc rule) f
    ∙ ap (λ (k : ℕ). refused n k rule) g
