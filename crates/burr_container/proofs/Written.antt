-- Coefficients and masks, one slot after the other; counts of plans that fit.
use Rattle.std.proofs.Common.{◌≡◌, ℕ, zero, suc, ◌+◌, ◌*◌, ◌<◌, ◌≤◌, List, [], ◌∷◌, ◌++◌, length, drop, get_or, refl, sym, ap, ◌∙◌, subst, arith, append_assoc}
use Rattle.std.specs.Prelude.{Option, Some, None, ◌==◌, Bool, true, false, ◌&&◌, ℤ, pos, IsTrue, if◌then◌else◌, nat_le, nat_lt, ◌^◌}
use Rattle.std.specs.List.{flat_map, list_all}
use Rattle.std.specs.Int.{from_bool}
use Rattle.std.proofs.lemmas.Bool.Decides.{nat_tests}
use Rattle.burr_code.specs.Instruction.{signed_word}
use Rattle.burr_container.specs.Rules.Plans.{of_live, Frame, ExitFrame, PlanProcedure, Plan, exit_symbols}
use Rattle.burr_container.specs.Rules.Spelling.{mask_of}
use Rattle.burr_container.specs.Views.Counts.{coef_bytes, has_room, has_room_in_exit, has_room_in_label}
use Rattle.burr_container.specs.Rules.Plans.{live_slots}
use Rattle.burr_code.specs.declared.limits.TheConstants.{MOST_GUARDS}
use Rattle.burr_container.proofs.Common.Exits.{exit_fits}
use Rattle.burr_container.proofs.Common.Procedures.{procedure_fits}
use Rattle.burr_container.proofs.Common.Containers.{plan_fits}
use Rattle.std.proofs.lemmas.Bool.{false≢true}
use Rattle.burr_container.specs.Rules.Fitting.{are_parameters, are_results, is_exit, is_frame, are_forms, are_labels, is_procedure, are_procedures, is_fitting}

bit_of : (l : Bool) → from_bool l ≡ (if l then 1 else 0)
bit_of true = refl
bit_of false = refl

-- the mask of eight slots
pub mask_eight : (xs : List Bool) → length xs ≡ 8
    → from_bool (get_or xs 0 false) + 2 * (from_bool (get_or xs 1 false) + 2 * (from_bool (get_or xs 2 false) + 2 * (from_bool (get_or xs 3 false) + 2 * (from_bool (get_or xs 4 false) + 2 * (from_bool (get_or xs 5 false) + 2 * (from_bool (get_or xs 6 false) + 2 * from_bool (get_or xs 7 false))))))) ≡ mask_of xs
mask_eight (a ∷ b ∷ c ∷ d ∷ e ∷ f ∷ g ∷ h ∷ []) long =
    omega (arith, bit_of a, bit_of b, bit_of c, bit_of d, bit_of e, bit_of f, bit_of g, bit_of h)
mask_eight xs long = absurd (omega arith)

abbrev pub coefs_bytes : List Bool → List ℤ → List ℕ
coefs_bytes live coefs = flat_map signed_word (of_live live coefs)

pub next_coef : (v : ℕ) (live : List Bool) (coefs : List ℤ) → v < length live → v < length coefs
    → coefs_bytes (drop v live) (drop v coefs) ≡ coef_bytes (get_or live v false) (get_or coefs v (pos 0)) ++ coefs_bytes (drop (v + 1) live) (drop (v + 1) coefs)
next_coef v [] coefs h k = absurd (omega arith)
next_coef v (l ∷ live) [] h k = absurd (omega arith)
next_coef zero (true ∷ live) (c ∷ coefs) h k = refl
next_coef zero (false ∷ live) (c ∷ coefs) h k = refl
next_coef (suc v) (l ∷ live) (c ∷ coefs) h k =
    let moved : suc v + 1 ≡ suc (v + 1) = omega arith in
    next_coef v live coefs (omega arith) (omega arith)
    ∙ ap (λ (n : ℕ). coef_bytes (get_or live v false) (get_or coefs v (pos 0)) ++ coefs_bytes (drop n (l ∷ live)) (drop n (c ∷ coefs))) (sym moved)

-- a part is written, and the others are still to be written
pub one_more : (old written part others whole : List ℕ) (left : List ℕ) → written ++ left ≡ whole → left ≡ part ++ others → (written ++ part) ++ others ≡ whole
one_more old written part others whole left so next = rw append_assoc (ap (λ (l : List ℕ). written ++ l) (sym next) ∙ so)

pub next_of : {A : Type 0} (f : A → List ℕ) (i : ℕ) (xs : List A) (d : A) → i < length xs
    → flat_map f (drop i xs) ≡ f (get_or xs i d) ++ flat_map f (drop (i + 1) xs)
next_of f i [] d h = absurd (omega arith)
next_of f zero (x ∷ xs) d h = refl
next_of f (suc i) (x ∷ xs) d h =
    let moved : suc i + 1 ≡ suc (i + 1) = omega arith in
    next_of f i xs d (omega arith) ∙ ap (λ (n : ℕ). f (get_or xs i d) ++ flat_map f (drop n (x ∷ xs))) (sym moved)

-- both of two tests
pub first_test : (a b : Bool) → IsTrue (a && b) → IsTrue a
first_test true b h = refl
first_test false b h = h

pub second_test : (a b : Bool) → IsTrue (a && b) → IsTrue b
second_test true b h = h
second_test false b h = absurd (cc)

pub both_tests : (a b : Bool) → IsTrue a → IsTrue b → IsTrue (a && b)
both_tests a b h k = rw (h, k) refl

pub all_also : {A : Type 0} (p q : A → Bool) → ((x : A) → IsTrue (p x) → IsTrue (q x)) → (xs : List A) → IsTrue (list_all p xs) → IsTrue (list_all q xs)
all_also p q also [] h = refl
all_also p q also (x ∷ xs) h = both_tests (q x) (list_all q xs) (also x (first_test (p x) (list_all p xs) h)) (all_also p q also xs (second_test (p x) (list_all p xs) h))

-- what is so of all is so of each
pub each_also : {A : Type 0} (p : A → Bool) (xs : List A) (i : ℕ) (x : A) → IsTrue (list_all p xs) → i < length xs → x ≡ get_or xs i x → IsTrue (p x)
each_also p [] i x all h is = absurd (omega arith)
each_also p (y ∷ ys) zero x all h is = subst (λ z. IsTrue (p z)) (sym is) (first_test (p y) (list_all p ys) all)
each_also p (y ∷ ys) (suc i) x all h is = each_also p ys i x (second_test (p y) (list_all p ys) all) (omega arith) is

pub below : (a b : ℕ) → a < b → IsTrue (nat_lt a b)
below a b h = grind (arith, nat_tests)

pub at_most : (a b : ℕ) → a ≤ b → IsTrue (nat_le a b)
at_most a b h = grind (arith, nat_tests)

pub le_of : (a b : ℕ) → IsTrue (nat_le a b) → a ≤ b
le_of a b h = grind (arith, nat_tests)

frame_has_room : (pieces : ℕ) (label : ℕ × Frame) → IsTrue (is_frame pieces label.1) → IsTrue (has_room_in_label label)
frame_has_room pieces label fits =
    let f = label.1 in
    let live = live_slots f.slots in
    let rest = second_test _ _ fits in
    let guards = first_test (are_forms 4 live f.guards) _ (first_test _ _ (first_test _ _ rest)) in
    let stack = second_test (are_forms 4 live f.guards) (are_forms 8 live f.stack) (first_test _ _ (first_test _ _ rest)) in
    let few : length f.guards ≤ 4 = le_of _ _ (first_test _ _ guards) in
    let low : length f.stack ≤ 8 = le_of _ _ (first_test _ _ stack) in
    both_tests _ _ (below (length f.guards) 256 (omega arith)) (below (length f.stack) 256 (omega arith))

labels_have_room : (pieces end : ℕ) (labels : List (ℕ × Frame)) → IsTrue (are_labels pieces end labels) → IsTrue (nat_lt (length labels) (2 ^ 16) && list_all has_room_in_label labels)
labels_have_room pieces end [] fits = refl
labels_have_room pieces end (label ∷ labels) fits =
    let few : length (label ∷ labels) ≤ 256 = le_of _ _ (second_test _ _ (first_test _ _ fits)) in
    both_tests _ _ (below (length (label ∷ labels)) 65536 (omega arith)) (all_also _ has_room_in_label (frame_has_room pieces) (label ∷ labels) (second_test _ _ fits))

few_parameters : (main : Bool) (n : ℕ) → IsTrue (are_parameters main n) → IsTrue (nat_le n 4)
few_parameters true n fits = let none : n ≤ 0 = le_of n 0 fits in at_most n 4 (omega arith)
few_parameters false n fits = fits

few_by : (second main : Bool) (n : ℕ)
    → IsTrue (nat_le n (if main then 0 else (if second then 2 else 0))) → IsTrue (nat_le n 2)
few_by second true n fits = let none : n ≤ 0 = le_of n 0 fits in at_most n 2 (omega arith)
few_by true false n fits = fits
few_by false false n fits = let none : n ≤ 0 = le_of n 0 fits in at_most n 2 (omega arith)

few_results : (version : ℕ) (main : Bool) (n : ℕ) → IsTrue (are_results version main n)
    → IsTrue (nat_le n 2)
few_results version main n fits = few_by (version == 2) main n fits

few_guards : (second : Bool) (n : ℕ) → IsTrue (nat_le n (if second then MOST_GUARDS else 0))
    → IsTrue (nat_lt n 256)
few_guards true n fits = let few : n ≤ 4 = le_of n 4 fits in below n 256 (omega arith)
few_guards false n fits = let few : n ≤ 0 = le_of n 0 fits in below n 256 (omega arith)

exit_has_room : (version pieces parameters results : ℕ) (main : Bool) (exit : Option ExitFrame)
    → IsTrue (is_exit version main pieces parameters results exit)
    → IsTrue (has_room_in_exit exit)
exit_has_room version pieces parameters results main None fits = refl
exit_has_room version pieces parameters results true (Some f) fits = absurd (false≢true fits)
exit_has_room version pieces parameters results false (Some f) fits =
    let live = exit_symbols parameters results in
    let guards = (exit_fits version pieces results live f fits).guards in
    few_guards (version == 2) (length f.guards) (first_test _ _ guards)

procedure_has_room : (version pieces : ℕ) (main : Bool) (p : PlanProcedure)
    → IsTrue (is_procedure version pieces main p) → IsTrue (has_room p)
procedure_has_room version pieces main p all =
    let fits = procedure_fits version pieces main p all in
    let room = labels_have_room pieces (length p.code) p.labels fits.labels in
    let short : length p.code ≤ 4096 = le_of _ _ (first_test _ _ fits.code) in
    let counts =
    both_tests (nat_le p.parameters 4) (nat_le p.results 2)
    (few_parameters main p.parameters fits.parameters)
    (few_results version main p.results fits.results) in
    let exit = exit_has_room version pieces p.parameters p.results main p.exit fits.exit in
    both_tests _ _
    (both_tests _ _
    (both_tests _ _ (both_tests _ (has_room_in_exit p.exit) counts exit) (first_test _ _ room))
    (second_test (nat_lt (length p.labels) 65536) _ room))
    (below (length p.code) 65536 (omega arith))

pub procedures_have_room : (version pieces : ℕ) (ps : List PlanProcedure)
    → IsTrue (are_procedures version pieces ps) → IsTrue (list_all has_room ps)
procedures_have_room version pieces [] fits = refl
procedures_have_room version pieces (main ∷ others) fits =
    let head = first_test _ _ fits in
    both_tests _ _ (procedure_has_room version pieces true main (first_test _ _ head))
    (all_also _ has_room (procedure_has_room version pieces false) others (second_test _ _ head))

pub few_procedures : (version pieces : ℕ) (ps : List PlanProcedure)
    → IsTrue (are_procedures version pieces ps) → length ps ≤ 16
few_procedures version pieces [] fits = omega arith
few_procedures version pieces (main ∷ others) fits = le_of _ _ (second_test _ _ fits)

-- what the writing of a plan requires: counts that fit into their fields
pub record HasRoom (plan : Plan) : Type 0 where
  pub name : length plan.name ≤ 32
  pub few : length plan.procedures ≤ 16
  pub room : IsTrue (list_all has_room plan.procedures)

pub plan_has_room : (plan : Plan) → IsTrue (is_fitting plan) → HasRoom plan
plan_has_room plan all =
    let fits = plan_fits plan all in
    record {
      name = le_of _ _ (second_test _ (nat_le (length plan.name) 32) fits.name);
      few = few_procedures plan.version plan.pieces plan.procedures fits.procedures;
      room = procedures_have_room plan.version plan.pieces plan.procedures fits.procedures;
    }
