-- For crates above: a container is that of one plan at most, and where it has a plan it is that of a fitting one.
use Rattle.std.proofs.Common.{◌≡◌, ℕ, ◌≤◌, true, IsTrue, nat_le, Option, Some, None, List, [], ◌∷◌, refl, sym, ap, ◌∙◌, subst, leb-true}
use Rattle.std.proofs.lemmas.Bool.{and_parts}
use Rattle.burr_container.specs.declared.frame_ref.ExitRef.{ExitRef}
use Rattle.burr_container.specs.declared.procedure_ref.StoredProcedure.{StoredProcedure}
use Rattle.burr_container.specs.Rules.Plans.{Plan, PlanProcedure, ExitFrame, Frame}
use Rattle.burr_container.specs.Rules.Fitting.{is_fitting}
use Rattle.burr_container.specs.Views.InPlace.{AreFor, IsLabel, IsExit, IsProcedure}
use Rattle.burr_container.specs.Views.Containers.{ContainerView, IsContainer, HasPlan}
use Rattle.burr_container.proofs.Common.LabelLists.{label_at_sound}
use Rattle.burr_container.proofs.Common.Containers.{plan_fits}

-- lists for one list, where each element is for one at most
same_for : {A B : Type 0} (Is : A → B → Type 0) → ((a : A) (x y : B) → Is a x → Is a y → x ≡ y)
    → (kept : List A) (xs ys : List B) → AreFor Is kept xs → AreFor Is kept ys → xs ≡ ys
same_for Is one [] [] [] e f = refl
same_for Is one [] [] (y ∷ ys) e f = absurd f
same_for Is one [] (x ∷ xs) ys e f = absurd e
same_for Is one (a ∷ kept) [] ys e f = absurd e
same_for Is one (a ∷ kept) (x ∷ xs) [] e f = absurd f
same_for Is one (a ∷ kept) (x ∷ xs) (y ∷ ys) e f =
    let head = one a x y e.0 f.0 in let tail = same_for Is one kept xs ys e.1 f.1 in λ i. head i ∷ tail i

one_label : (pieces : ℕ) → pieces ≤ 32 → (start : List ℕ) (l m : ℕ × Frame) → IsLabel pieces start l
    → IsLabel pieces start m → l ≡ m
one_label pieces few start l m e f =
    ((label_at_sound (λ position. true) pieces few).one l m start e.rest f.rest (e.fits, e.parts)
    (f.fits, f.parts)).0

one_exit : (pieces parameters results : ℕ) (kept : Option ExitRef) (f g : Option ExitFrame)
    → IsExit pieces parameters results kept f → IsExit pieces parameters results kept g → f ≡ g
one_exit pieces parameters results None None None e h = refl
one_exit pieces parameters results None None (Some g) e h = absurd h
one_exit pieces parameters results None (Some f) g e h = absurd e
one_exit pieces parameters results (Some kept) None g e h = absurd e
one_exit pieces parameters results (Some kept) (Some f) None e h = absurd h
one_exit pieces parameters results (Some kept) (Some f) (Some g) e h = ap Some (sym e.frame ∙ h.frame)

one_procedure : (pieces : ℕ) → pieces ≤ 32 → (kept : StoredProcedure) (p q : PlanProcedure) → IsProcedure pieces kept p
    → IsProcedure pieces kept q → p ≡ q
one_procedure pieces few kept p q e f =
    let parameters : p.parameters ≡ q.parameters = sym e.parameters ∙ f.parameters in
    let results : p.results ≡ q.results = sym e.results ∙ f.results in
    let exit : p.exit ≡ q.exit =
    one_exit pieces q.parameters q.results kept.exit p.exit q.exit
    (subst (λ (n : ℕ). IsExit pieces n q.results kept.exit p.exit) parameters
    (subst (λ (n : ℕ). IsExit pieces p.parameters n kept.exit p.exit) results e.exit)) f.exit in
    let labels : p.labels ≡ q.labels =
    same_for (IsLabel pieces) (one_label pieces few) kept.labels.starts p.labels q.labels e.labels f.labels in
    let code : p.code ≡ q.code = sym e.code ∙ f.code in λ i. record {
      parameters = parameters i;
      results = results i;
      exit = exit i;
      labels = labels i;
      code = code i;
    }

pub one_plan : (kept : ContainerView) (p q : Plan) → q.pieces ≤ 32 → IsContainer kept p → IsContainer kept q → p ≡ q
one_plan kept p q few e f =
    let version : p.version ≡ q.version = sym e.header.version ∙ f.header.version in
    let name : p.name ≡ q.name = sym e.header.name ∙ f.header.name in
    let pieces : p.pieces ≡ q.pieces = sym e.header.pieces ∙ f.header.pieces in
    let budget : p.budget ≡ q.budget = sym e.header.budget ∙ f.header.budget in
    let procedures : p.procedures ≡ q.procedures =
    same_for (IsProcedure q.pieces) (one_procedure q.pieces few) kept.procedures p.procedures q.procedures
    (subst (λ (n : ℕ). AreFor (IsProcedure n) kept.procedures p.procedures) pieces e.procedures) f.procedures in λ i. record {
      version = version i;
      name = name i;
      pieces = pieces i;
      budget = budget i;
      procedures = procedures i;
    }

few_pieces : (p : Plan) → IsTrue (is_fitting p) → p.pieces ≤ 32
few_pieces p fits =
    leb-true p.pieces 32 (and_parts (nat_le 2 p.pieces) (nat_le p.pieces 32) (plan_fits p fits).pieces).1

-- A plan of a container that is that of a fitting plan is this one.
pub the_plan : (kept : ContainerView) (p q : Plan) → IsTrue (is_fitting q) → IsContainer kept p → IsContainer kept q
    → p ≡ q
the_plan kept p q fits e f = one_plan kept p q (few_pieces q fits) e f

-- So it is a fitting one.
pub fits_where_kept : (kept : ContainerView) (p : Plan) → HasPlan kept → IsContainer kept p → IsTrue (is_fitting p)
fits_where_kept kept p (q, fits, f) e = subst (λ (r : Plan). IsTrue (is_fitting r)) (sym (the_plan kept p q fits e f)) fits

-- So two plans of a container that has one are the same.
pub one_kept_plan : (kept : ContainerView) (p q : Plan) → HasPlan kept → IsContainer kept p → IsContainer kept q → p ≡ q
one_kept_plan kept p q (r, fits, f) e g = the_plan kept p r fits e f ∙ sym (the_plan kept q r fits g f)
