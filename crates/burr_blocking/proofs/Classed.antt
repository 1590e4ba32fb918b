-- Classes with one more piece, and the pairs that are kept of two pieces.
use Rattle.std.proofs.Common.{◌≡◌, ◌∙◌, ℕ, zero, suc, ◌+◌, ◌<◌, ◌≤◌, List, [], ◌∷◌, ◌++◌, length, get_or, sym, ap, subst, arith}
use Rattle.std.specs.Prelude.{◌≢◌}
use Rattle.std.specs.List.{All}
use Rattle.std.proofs.lemmas.List.{get_or_append_left, get_or_default, length-append}
use Rattle.std.proofs.lemmas.List.Elements.{All-append}
use Rattle.std.proofs.Math.Seq.{get_or-append_seam}
use native.Mathlib.Decide.{ℕ_discrete}
use Rattle.burr_voxels.specs.declared.cell.Cell.{Cell}
use Rattle.burr_voxels.specs.Grid.{origin, shifted}
use Rattle.burr_assembly.specs.Rules.Homes.{home_at}
use Rattle.burr_blocking.specs.declared.triangle.translate.Translate.{Translate}
use Rattle.burr_blocking.specs.declared.triangle.Classes.{Classes}
use Rattle.burr_blocking.specs.Views.Classes.{AreFirstClasses, HasSeveral, IsAnother, IsIn, IsOfClass, IsPairCount}
use Rattle.burr_blocking.specs.Views.Translates.{IsTranslate, representative_at}
use Rattle.burr_blocking.proofs.Translated.{translate_of_itself}
use Rattle.burr_blocking.proofs.Triangles.{one_pushed}

-- One piece more

-- a piece of one of the first classes
of_class_still : (homes : List (List Cell)) (rs more : List ℕ) (cells : List Cell) (t : Translate) → IsOfClass homes rs cells t → IsOfClass homes (rs ++ more) cells t
of_class_still homes rs more cells t of = record {
  class = omega (arith, of.class, length-append rs more);
  translate = of.translate ∙ ap (λ (r : ℕ). shifted t.displacement (home_at homes r)) (sym (get_or_append_left rs more 0 t.class of.class));
}

pub one_translate : (homes : List (List Cell)) (n : ℕ) (c new : Classes) (before : List Translate) (s t : Translate) → AreFirstClasses homes n c → IsOfClass homes c.representatives.items (home_at homes n) s → new.representatives.items ≡ c.representatives.items → before ≡ c.translates.items → new.translates.items ≡ before ++ t ∷ [] → t.class ≡ s.class → t.displacement ≡ s.displacement → AreFirstClasses homes (n + 1) new
one_translate homes n c new before s t first is same still pushed class_is moved_is =
    let of : IsOfClass homes c.representatives.items (home_at homes n) t = record { class = omega (arith, class_is, is.class); translate = rw (class_is, moved_is) is.translate } in
    let more : new.translates.items ≡ c.translates.items ++ t ∷ [] = pushed ∙ ap (λ (ts : List Translate). ts ++ t ∷ []) still in
    let rs = c.representatives.items in
    let ts = c.translates.items in
    let P : ℕ → Translate → Type 0 = λ p u. IsOfClass homes rs (home_at homes p) u in
    let each : (p : ℕ) (d : Translate) → p < length (ts ++ t ∷ []) → IsOfClass homes rs (home_at homes p) (get_or (ts ++ t ∷ []) p d) = one_pushed P ts t first.each (subst (λ (k : ℕ). IsOfClass homes rs (home_at homes k) t) (sym first.count) of) in
    record {
      count = ap length more ∙ length-append ts (t ∷ []) ∙ ap (λ (k : ℕ). k + 1) first.count;
      representatives = subst (All (λ (p : ℕ). p < length homes)) (sym same) first.representatives;
      each = rw (same, more) each;
    }

pub one_class : (homes : List (List Cell)) (n : ℕ) (c new : Classes) (before : List Translate) (t : Translate) → AreFirstClasses homes n c → n < length homes → new.representatives.items ≡ c.representatives.items ++ n ∷ [] → before ≡ c.translates.items → new.translates.items ≡ before ++ t ∷ [] → t.class ≡ length c.representatives.items → t.displacement ≡ origin → AreFirstClasses homes (n + 1) new
one_class homes n c new before t first lt same still pushed class_is nothing =
    let more : new.translates.items ≡ c.translates.items ++ t ∷ [] = pushed ∙ ap (λ (ts : List Translate). ts ++ t ∷ []) still in
    let rs = c.representatives.items in
    let ts = c.translates.items in
    let wider : List ℕ = rs ++ n ∷ [] in
    let kept : (p : ℕ) (d : Translate) → p < length ts → IsOfClass homes wider (home_at homes p) (get_or ts p d) = λ p d below. of_class_still homes rs (n ∷ []) (home_at homes p) (get_or ts p d) (first.each p d below) in
    let own : representative_at homes wider t.class ≡ home_at homes n = ap (λ (k : ℕ). home_at homes k) (ap (λ (k : ℕ). get_or wider k 0) class_is ∙ get_or-append_seam rs n [] 0) in
    let here : IsTranslate (representative_at homes wider t.class) t.displacement (home_at homes n) = translate_of_itself (home_at homes n) ∙ ap (λ (d : Cell). shifted d (home_at homes n)) (sym nothing) ∙ ap (shifted t.displacement) (sym own) in
    let of : IsOfClass homes wider (home_at homes n) t = record { class = omega (arith, class_is, length-append rs (n ∷ [])); translate = here } in
    let each : (p : ℕ) (d : Translate) → p < length (ts ++ t ∷ []) → IsOfClass homes wider (home_at homes p) (get_or (ts ++ t ∷ []) p d) = one_pushed (λ (p : ℕ) (u : Translate). IsOfClass homes wider (home_at homes p) u) ts t kept (subst (λ (k : ℕ). IsOfClass homes wider (home_at homes k) t) (sym first.count) of) in
    let pieces : All (λ p. p < length homes) wider = All-append (λ (p : ℕ). p < length homes) rs (n ∷ []) first.representatives (one_of n lt) in
    record {
      count = ap length more ∙ length-append ts (t ∷ []) ∙ ap (λ (k : ℕ). k + 1) first.count;
      representatives = subst (All (λ (p : ℕ). p < length homes)) (sym same) pieces;
      each = rw (same, more) each;
    }
  where
    one_of : (k : ℕ) → k < length homes → All (λ p. p < length homes) (k ∷ [])
    one_of k below zero d h = below
    one_of k below (suc j) d h = absurd (omega arith)

-- The pairs that are kept

-- of two pieces of one class, one is another than the representative
pub several : (c : Classes) (class p q : ℕ) → p ≢ q → IsIn c.translates.items class p → IsIn c.translates.items class q → HasSeveral c class
several c class p q two in_p in_q = elim (ℕ_discrete p (get_or c.representatives.items class 0)) [
  | yes is ↦ (q, ((λ (e : q ≡ get_or c.representatives.items class 0). two (is ∙ sym e)), in_q))
  | no other ↦ (p, (other, in_p))
]

-- a piece that is read is of its class
pub read_in : (ts : List Translate) (p : ℕ) (t : Translate) → p < length ts → t ≡ get_or ts p t → IsIn ts t.class p
read_in ts p t lt is = (lt, λ d. ap (λ (u : Translate). u.class) (get_or_default ts p d t lt ∙ sym is))

-- the pair of two pieces is kept
pub pair_kept : (c : Classes) (p q n : ℕ) (s t : Translate) → p ≢ q → p < length c.translates.items → q < length c.translates.items → s ≡ get_or c.translates.items p s → t ≡ get_or c.translates.items q t → s.class ≤ t.class → IsPairCount c t.class n → s.class < n
pair_kept c p q n s t two lt_p lt_q is_s is_t le kept = elim (ℕ_discrete s.class t.class) [
  | yes same ↦
      let more = kept.several (several c t.class p q two (subst (λ (k : ℕ). IsIn c.translates.items k p) same (read_in c.translates.items p s lt_p is_s)) (read_in c.translates.items q t lt_q is_t)) in
      omega (arith, more, same)
  | no other ↦ omega (arith, kept.before, le, other)
]

-- The other pieces that are looked for

-- one piece more is no other
pub none_more : (c : Classes) (class i p : ℕ) → ((q : ℕ) → q < i → ¬ IsAnother c class q) → (¬ IsAnother c class i) → p < i + 1 → ¬ IsAnother c class p
none_more c class i p none here lt another = elim (ℕ_discrete p i) [
  | yes same ↦ here (subst (IsAnother c class) same another)
  | no before ↦ none p (omega (arith, lt, before)) another
]

-- there is no other
pub none_at_all : (c : Classes) (class n : ℕ) → length c.translates.items ≤ n → ((q : ℕ) → q < n → ¬ IsAnother c class q) → ¬ HasSeveral c class
none_at_all c class n le none (p, another) = none p (let lt = another.1.0 in omega arith) another

-- cells of no class
pub of_no_class : (homes : List (List Cell)) (rs : List ℕ) (cells : List Cell) (n : ℕ) → length rs ≤ n → ((class : ℕ) → class < n → (d : Cell) → ¬ IsTranslate (representative_at homes rs class) d cells) → (t : Translate) → ¬ IsOfClass homes rs cells t
of_no_class homes rs cells n le none t of = none t.class (let lt = of.class in omega arith) t.displacement of.translate
