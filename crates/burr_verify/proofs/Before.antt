-- The parts of the judgement before the code: where all holds that a part checks, it says what is said after it; else it
-- refuses, whatever is said after it.
use Rattle.std.proofs.Common.{◌≡◌, ◌⊎◌, ℕ, zero, suc, List, [], ◌∷◌, length, Option, Some, None, refl, sym, subst, ◌∙◌, inl, inr}
use Rattle.std.specs.Prelude.{◌↔◌, pos, slice_get}
use Rattle.std.proofs.lemmas.Option.{none-some, same_Some}
use Rattle.burr_text.specs.Checks.{needs, finds}
use Rattle.burr_text.proofs.Common.Decisions.{Decided, decided_and, decide_same, decide_at_most, decide_same_bytes}
use Rattle.burr_voxels.specs.declared.cell.Cell.{Cell}
use Rattle.burr_code.proofs.Common.Orders.{decide_le}
use Rattle.burr_forms.specs.Rules.Forms.{value}
use Rattle.burr_forms.specs.Rules.Points.{box_size}
use Rattle.burr_container.specs.Rules.Plans.{Frame}
use Rattle.burr_frames.specs.Rules.ControlRules.{entry_of, first_frame}
use Rattle.burr_frames.specs.Rules.FramedPlans.{FramedExit, FramedProcedure, FramedPlan}
use Rattle.burr_frames.specs.Rules.Starts.{start_state}
use Rattle.burr_frames.specs.Rules.States.{live_ranges}
use Rattle.burr_frames.proofs.Common.Decided.{decide_meets}
use Rattle.burr_verify.specs.Rules.WellFramed.{IsLabelled, IsFormed, IsFormedEntry, IsFormedExit, StartsWell}
use Rattle.burr_verify.specs.Rules.Pass.{Judgement, Passed, Refuses, FailedCheck}
use Rattle.burr_verify.specs.Rules.Judging.{Rest, HasRoomForPoints, judging_labels, judging_entry, judging_exit, judging_frames, judging_start, judging_before, passes, nothing}
use Rattle.burr_verify.specs.Views.Forming.{IsFormedAt, judging_label}
use Rattle.burr_verify.proofs.PassCuts.{refuses-passed}
use Rattle.burr_verify.proofs.SomePass.{decide_entry, decide_formed, decide_formed_exit}

-- A part of the judgement, by what it checks
pub data Checks (P : Type 0) (part : Rest → Rest) : Type 1 where
  holding : P → ((rest : Rest) (a : Judgement) → part rest a ↔ rest a) → Checks P part
  failing : (¬ P) → (r : FailedCheck) → ((rest : Rest) (a : Judgement) → part rest a ↔ (a ≡ Refuses r)) → Checks P part

-- What a part says

pub part_where : {P : Type 0} {part : Rest → Rest} → Checks P part → P → (rest : Rest) (a : Judgement) → rest a → part rest a
part_where (holding p same) so rest a h = (same rest a).1 h
part_where (failing none r same) so rest a h = absurd (none so)

pub part_so : {P : Type 0} {part : Rest → Rest} → Checks P part → (rest : Rest) → part rest Passed → P × rest Passed
part_so (holding p same) rest h = (p, (same rest Passed).0 h)
part_so (failing none r same) rest h = absurd (refuses-passed r (sym ((same rest Passed).0 h)))

-- where it holds, what is said after it is said with it
pub part_after : {P : Type 0} {part : Rest → Rest} → Checks P part → part passes Passed → (rest : Rest) (a : Judgement)
    → rest a → part rest a
part_after checks h = part_where checks (part_so checks passes h).0

-- where it refuses, it does so whatever is said after it
pub part_refuses : {P : Type 0} {part : Rest → Rest} → Checks P part → (a : Judgement) → part nothing a → (rest : Rest)
    → part rest a
part_refuses (holding p same) a h rest = absurd ((same nothing a).0 h)
part_refuses (failing none r same) a h rest = (same rest a).1 ((same nothing a).0 h)

pub part_splits : {P : Type 0} {part : Rest → Rest} → Checks P part → (rest : Rest) (a : Judgement) → part rest a
    → part nothing a ⊎ (part passes Passed × rest a)
part_splits (holding p same) rest a h = inr ((same passes Passed).1 refl, (same rest a).0 h)
part_splits (failing none r same) rest a h = inl ((same nothing a).1 ((same rest a).0 h))

pub part_bars : {P : Type 0} {part : Rest → Rest} → Checks P part → (a : Judgement) → part nothing a → ¬ part passes Passed
part_bars (holding p same) a h well = (same nothing a).0 h
part_bars (failing none r same) a h well = refuses-passed r (sym ((same passes Passed).0 well))

pub part_one : {P : Type 0} {part : Rest → Rest} → Checks P part → (a b : Judgement) → part nothing a → part nothing b → a ≡ b
part_one (holding p same) a b g h = absurd ((same nothing a).0 g)
part_one (failing none r same) a b g h = (same nothing a).0 g ∙ sym ((same nothing b).0 h)

pub part_some : {P : Type 0} {part : Rest → Rest} → Checks P part → part passes Passed ⊎ ((a : Judgement) × part nothing a)
part_some (holding p same) = inl ((same passes Passed).1 refl)
part_some (failing none r same) = inr (Refuses r, (same nothing (Refuses r)).1 refl)

-- How parts are put together

pub checks_like : {P Q : Type 0} {part : Rest → Rest} → (P → Q) → (Q → P) → Checks P part → Checks Q part
checks_like f g (holding p same) = holding (f p) same
checks_like f g (failing none r same) = failing (λ q. none (g q)) r same

checks_same : {P : Type 0} {part other : Rest → Rest} → ((rest : Rest) (a : Judgement) → part rest a ↔ other rest a)
    → Checks P other → Checks P part
checks_same f (holding p same) =
    holding p (λ rest a. ((λ x. (same rest a).0 ((f rest a).0 x)), (λ x. (f rest a).1 ((same rest a).1 x))))
checks_same f (failing none r same) =
    failing none r (λ rest a. ((λ x. (same rest a).0 ((f rest a).0 x)), (λ x. (f rest a).1 ((same rest a).1 x))))

checks_none : {P : Type 0} → P → Checks P (λ rest. rest)
checks_none p = holding p (λ rest a. ((λ x. x), (λ x. x)))

-- one part after the other
checks_both : {C P : Type 0} (first later : Rest → Rest) → Checks C first → Checks P later
    → Checks (C × P) (λ rest. first (later rest))
checks_both first later (holding c same) checks =
    checks_like (λ p. (c, p)) (λ both. both.1) (checks_same (λ rest a. same (later rest) a) checks)
checks_both first later (failing none r same) checks = failing (λ both. none both.0) r (λ rest a. same (later rest) a)

checks_needs : {P : Type 0} {part : Rest → Rest} (C : Type 0) (r : FailedCheck) → Decided C → Checks P part
    → Checks (C × P) (λ rest. needs C (Refuses r) (part rest))
checks_needs {part} C r (inl c) checks =
    checks_like (λ p. (c, p)) (λ both. both.1) (checks_same (λ rest a. (
      (λ x. elim x [ inl failed ↦ absurd (failed.0 c) | inr more ↦ more.1 ]),
      (λ x. inr (c, x)),
    )) checks)
checks_needs {part} C r (inr none) checks =
    failing (λ both. none both.0) r (λ rest a. (
      (λ x. elim x [ inl failed ↦ failed.1 | inr more ↦ absurd (none more.0) ]),
      (λ e. inl (none, e)),
    ))

checks_finds : {A : Type 0} {P : A → Type 0} {part : A → Rest → Rest} (found : Option A) (r : FailedCheck)
    → ((x : A) → Checks (P x) (part x))
    → Checks ((x : A) × (found ≡ Some x) × P x) (λ rest. finds found (Refuses r) (λ x. part x rest))
checks_finds None r each =
    failing (λ some. none-some some.0 some.1) r (λ rest a. (
      (λ x. elim x [ inl failed ↦ failed.1 | inr some ↦ absurd (none-some some.0 some.1) ]),
      (λ e. inl (refl, e)),
    ))
checks_finds {P} {part} (Some x) r each =
    checks_like (λ p. (x, refl, p)) (λ some. subst P (sym (same_Some x some.0 some.1)) some.2) (checks_same (λ rest a. (
      (λ y. elim y [
        | inl failed ↦ absurd (none-some x (sym failed.0))
        | inr some ↦ subst (λ z. part z rest a) (sym (same_Some x some.0 some.1)) some.2
      ]),
      (λ y. inr (x, refl, y)),
    )) (each x))

-- The frames

-- what is so of each of these
abbrev pub Each : {A : Type 0} → (A → Type 0) → List A → Type 0
Each {A} P xs = (k : ℕ) (x : A) → slice_get xs k ≡ Some x → P x

each_first : {A : Type 0} (P : A → Type 0) (x : A) (xs : List A) → P x → Each P xs → Each P (x ∷ xs)
each_first P x xs p all zero y e = subst P (same_Some x y e) p
each_first P x xs p all (suc k) y e = all k y e

-- what is judged of a frame
abbrev IsGood : ℕ → Frame → Type 0
IsGood parameters f = IsFormed parameters f × HasRoomForPoints f

-- what is judged of a procedure's frames
pub record HasGoodFrames (here : FramedProcedure) : Type 0 where
  pub exit : (f : FramedExit) → here.exit ≡ Some f → IsFormedExit f
  pub entry : (f : Frame) → entry_of here ≡ Some f → IsFormedEntry here.parameters f
  pub frames : (pc : ℕ) (f : Frame) → IsLabelled here pc f → IsGood here.parameters f

abbrev AllGood : ℕ → List (ℕ × Frame) → Type 0
AllGood parameters labels = Each (λ label. IsGood parameters label.1) labels

pub checks_label : (n parameters k : ℕ) (label : ℕ × Frame)
    → Checks (IsFormedAt k parameters label.1 × HasRoomForPoints label.1 × Unit {0}) (judging_label n parameters k label)
checks_label n parameters k label =
    checks_like (λ all. (all.0, all.1.0, tt)) (λ all. (all.0, (all.1, tt)))
    (checks_needs _ _ (formed k) (checks_needs _ _ (decide_at_most (box_size (live_ranges label.1.slots)) 4096)
    (checks_none {P = Unit {0}} tt)))
  where
    formed : (k : ℕ) → Decided (IsFormedAt k parameters label.1)
    formed zero = decided_and (decide_formed parameters label.1) (decide_entry parameters label.1)
    formed (suc k) = decide_formed parameters label.1

checks_labels : (n parameters : ℕ) (labels : List (ℕ × Frame)) → Checks (AllGood parameters labels) (judging_labels n parameters labels)
checks_labels n parameters [] = checks_none (λ k label e. absurd (none-some label e))
checks_labels n parameters (label ∷ labels) =
    checks_like (λ all. each_first (λ l. IsGood parameters l.1) label labels (all.0.0, all.0.1) all.1)
    (λ all. (((all 0 label refl).0, (all 0 label refl).1, tt), (λ k other e. all (suc k) other e)))
    (checks_both (judging_label n parameters 1 label) (judging_labels n parameters labels)
    (checks_label n parameters 1 label) (checks_labels n parameters labels))

checks_entry : (n parameters : ℕ) (labels : List (ℕ × Frame))
    → Checks (AllGood parameters labels × ((f : Frame) → first_frame labels ≡ Some f → IsFormedEntry parameters f))
    (judging_entry n parameters labels)
checks_entry n parameters [] =
    checks_none ((λ k label e. absurd (none-some label e)), (λ f e. absurd (none-some f e)))
checks_entry n parameters (label ∷ labels) =
    checks_like (λ all. (
      each_first (λ l. IsGood parameters l.1) label labels (all.0.0.0, all.0.1) all.1,
      (λ f e. subst (λ (g : Frame). IsFormedEntry parameters g) (same_Some label.1 f e) all.0.0.1),
    )) (λ all. (
      (((all.0 0 label refl).0, all.1 label.1 refl), (all.0 0 label refl).1, tt),
      (λ k other e. all.0 (suc k) other e),
    )) (checks_both (judging_label n parameters 0 label) (judging_labels n parameters labels)
    (checks_label n parameters 0 label) (checks_labels n parameters labels))

pub checks_exit : (n : ℕ) (exit : Option FramedExit)
    → Checks ((f : FramedExit) → exit ≡ Some f → IsFormedExit f) (judging_exit n exit)
checks_exit n None = checks_none (λ f e. absurd (none-some f e))
checks_exit n (Some f) =
    checks_like (λ all g e. subst (λ (x : FramedExit). IsFormedExit x) (same_Some f g e) all.0) (λ all. (all f refl, tt))
    (checks_needs _ _ (decide_formed_exit f) (checks_none {P = Unit {0}} tt))

-- the frames of one procedure
abbrev pub one_framed : ℕ → FramedProcedure → Rest → Rest
one_framed n here rest = judging_exit n here.exit (judging_entry n here.parameters here.labels rest)

pub checks_here : (n : ℕ) (here : FramedProcedure) → Checks (HasGoodFrames here) (one_framed n here)
checks_here n here =
    checks_like (λ all. record {
      exit = all.0;
      entry = all.1.1;
      frames = λ pc f labelled. all.1.0 labelled.0 (pc, f) labelled.1;
    }) (λ good. (good.exit, ((λ k label e. good.frames label.0 label.1 (k, e)), good.entry)))
    (checks_both (judging_exit n here.exit) (judging_entry n here.parameters here.labels) (checks_exit n here.exit)
    (checks_entry n here.parameters here.labels))

pub checks_frames : (n : ℕ) (procedures : List FramedProcedure)
    → Checks (Each HasGoodFrames procedures) (judging_frames n procedures)
checks_frames n [] = checks_none (λ k here e. absurd (none-some here e))
checks_frames n (here ∷ procedures) =
    checks_like (λ all. each_first HasGoodFrames here procedures all.0 all.1)
    (λ all. (all 0 here refl, (λ k there e. all (suc k) there e)))
    (checks_both (one_framed n here) (judging_frames (suc n) procedures) (checks_here n here)
    (checks_frames (suc n) procedures))

-- The start, and the whole

checks_start : (homes : List (List Cell)) (plan : FramedPlan) → Checks (StartsWell homes plan) (judging_start homes plan)
checks_start homes plan =
    checks_like (λ all. record {
      main = all.0;
      frame = all.2.0;
      is_main = all.1;
      is_entry = all.2.1;
      meets = all.2.2.0;
      cost = all.2.2.1.0;
    }) (λ start. (start.main, start.is_main, (start.frame, start.is_entry, (start.meets, (start.cost, tt)))))
    (checks_finds _ _ λ main. checks_finds _ _ λ f. checks_needs _ _ (decide_meets (start_state homes) f)
    (checks_needs _ _ (decide_le (value [] f.cost) (pos plan.budget)) (checks_none {P = Unit {0}} tt)))

pub checks_before : (name : List ℕ) (homes : List (List Cell)) (plan : FramedPlan)
    → Checks (((plan.name ≡ name) × (plan.pieces ≡ length homes))
    × (Each HasGoodFrames plan.procedures × StartsWell homes plan)) (judging_before name homes plan)
checks_before name homes plan =
    checks_needs _ _ (decided_and (decide_same_bytes plan.name name) (decide_same plan.pieces (length homes)))
    (checks_both (judging_frames 0 plan.procedures) (judging_start homes plan) (checks_frames 0 plan.procedures)
    (checks_start homes plan))
