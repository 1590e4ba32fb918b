-- Forms and places that are restored one by one from their bytes.
use Rattle.std.proofs.Common.{◌≡◌, ℕ, suc, ◌+◌, ◌-◌, ◌*◌, ◌<◌, ◌≤◌, List, [], ◌∷◌, ◌++◌, length, length-drop, drop, set, Some, ℤ, pos, sym, ap, subst, ◌∙◌, arith, append_assoc}
use Rattle.std.specs.Prelude.{replicate, slice_get, slice_index, Bool, true, false, IsTrue}
use Rattle.std.proofs.lemmas.List.{append-nil, length_push, set-append_right}
use Rattle.burr_code.specs.declared.placement.Placement.{Placement}
use Rattle.burr_forms.specs.Rules.Forms.{Form}
use Rattle.burr_container.specs.Rules.Plans.{FormCell}
use Rattle.burr_container.specs.Rules.Spelling.{form_size}
use Rattle.burr_container.specs.Views.Decoding.{signed_in, live_count, coefs_in, form_in, forms_in, place_in, place_rest, places_in, places_stand}
use Rattle.burr_container.proofs.Common.ListsRead.{drop_here}
use Rattle.burr_container.proofs.PlaceWalk.{steps_on}

-- Coefficients

-- of eight slots the first v are done, and the others are still 0; the numbers of those stand in the rest
pub record IsFilled (live : List Bool) (bytes : List ℕ) (v : ℕ) (coefs : List ℤ) (rest : List ℕ) : Type 0
  where
    pub front : List ℤ
    pub many : length front ≡ v
    pub parts : coefs ≡ front ++ replicate (8 - v) (pos 0)
    pub is : front ++ coefs_in (drop v live) rest ≡ coefs_in live bytes
    pub room : 2 * live_count (drop v live) ≤ length rest

one_more : (v : ℕ) → v < 8 → 8 - v ≡ suc (8 - (v + 1))
one_more v l = omega (arith, l)

-- a slot that isn't live
pub passed : (live : List Bool) (bytes : List ℕ) (v : ℕ) (coefs : List ℤ) (rest : List ℕ) → v < 8
    → slice_get live v ≡ Some false → IsFilled live bytes v coefs rest → IsFilled live bytes (v + 1) coefs rest
passed live bytes v coefs rest l e n =
    let here = drop_here live v false e in record {
      front = n.front ++ pos 0 ∷ [];
      many = length_push n.front (pos 0) ∙ ap (λ k. k + 1) n.many;
      parts = n.parts ∙ ap (λ (k : ℕ). n.front ++ replicate k (pos 0)) (one_more v l)
          ∙ sym (append_assoc n.front (pos 0 ∷ []) (replicate (8 - (v + 1)) (pos 0)));
      is = append_assoc n.front (pos 0 ∷ []) (coefs_in (drop (v + 1) live) rest)
          ∙ ap (λ (ls : List Bool). n.front ++ coefs_in ls rest) (sym here) ∙ n.is;
      room = omega (arith, ap live_count here, n.room);
    }

-- a live slot
pub given : (live : List Bool) (bytes : List ℕ) (v : ℕ) (coefs : List ℤ) (rest next : List ℕ) (number : ℤ) → v < 8
    → slice_get live v ≡ Some true → number ≡ signed_in rest → next ≡ drop 2 rest → IsFilled live bytes v coefs rest
    → IsFilled live bytes (v + 1) (set coefs v number) next
given live bytes v coefs rest next number l e is to n =
    let after : List ℤ = replicate (8 - (v + 1)) (pos 0) in
    let here = drop_here live v true e in
    let others = drop (v + 1) live in record {
      front = n.front ++ number ∷ [];
      many = length_push n.front number ∙ ap (λ k. k + 1) n.many;
      parts = ap (λ (s : List ℤ). set s v number) (n.parts ∙ ap (λ (k : ℕ). n.front ++ replicate k (pos 0)) (one_more v l))
          ∙ set-append_right n.front (pos 0 ∷ after) v v number n.many (omega arith)
          ∙ ap (λ (k : ℕ). n.front ++ set (pos 0 ∷ after) k number) (same_less v)
          ∙ sym (append_assoc n.front (number ∷ []) after);
      is = append_assoc n.front (number ∷ []) (coefs_in others next)
          ∙ (λ i. n.front ++ is i ∷ coefs_in others (to i))
          ∙ ap (λ (ls : List Bool). n.front ++ coefs_in ls rest) (sym here) ∙ n.is;
      room = omega (arith, ap live_count here, n.room, ap (length {A = ℕ}) to, length-drop 2 rest);
    }
  where
    same_less : (k : ℕ) → k - k ≡ 0
    same_less k = omega arith

-- Lists

-- these forms and the k forms in the rest are together the list `all`
pub record AreForms (live : List Bool) (all : List Form) (k : ℕ) (forms : List Form) (rest : List ℕ) : Type 0 where
  pub is : forms ++ forms_in live k rest ≡ all
  pub sized : length rest ≡ k * form_size live

pub form_there : (live : List Bool) (all : List Form) (k m : ℕ) (forms : List Form) (rest : List ℕ) → k ≡ suc m
    → AreForms live all k forms rest → form_size live ≤ length rest
form_there live all k m forms rest e are =
    let sized : length rest ≡ suc m * form_size live = are.sized ∙ ap (λ j. j * form_size live) e in
    omega (arith, sized)

pub form_added : (live : List Bool) (all : List Form) (k m : ℕ) (forms new : List Form) (rest next : List ℕ) (form : Form)
    → k ≡ suc m → new ≡ forms ++ form ∷ [] → form ≡ form_in live rest → next ≡ drop (form_size live) rest
    → AreForms live all k forms rest → AreForms live all m new next
form_added live all k m forms new rest next form e items is to are =
    let size = form_size live in
    let sized : length rest ≡ suc m * size = are.sized ∙ ap (λ j. j * size) e in
    let cut = ap (length {A = ℕ}) to ∙ length-drop size rest in record {
      is = ap (λ (fs : List Form). fs ++ forms_in live m next) items ∙ append_assoc forms (form ∷ []) (forms_in live m next)
          ∙ (λ i. forms ++ is i ∷ forms_in live m (to i)) ∙ ap (λ (j : ℕ). forms ++ forms_in live j rest) (sym e) ∙ are.is;
      sized = omega (arith, sized, cut);
    }

-- where no form is left in the rest, these forms are the list `all`
pub forms_whole : (live : List Bool) (all : List Form) (k : ℕ) (forms : List Form) (rest : List ℕ) → k ≡ 0
    → AreForms live all k forms rest → forms ≡ all
forms_whole live all k forms rest e are =
    sym (append-nil forms) ∙ ap (λ (j : ℕ). forms ++ forms_in live j rest) (sym e) ∙ are.is

-- these places and the first k places in the rest are together the list `all`
pub record ArePlaces (live : List Bool) (all : List (Placement FormCell)) (k : ℕ) (places : List (Placement FormCell)) (rest : List ℕ) : Type 0
  where
    pub is : places ++ places_in live k rest ≡ all
    pub stand : IsTrue (places_stand live k rest)

pub places_whole : (live : List Bool) (all : List (Placement FormCell)) (k : ℕ) (places : List (Placement FormCell)) (rest : List ℕ)
    → k ≡ 0 → ArePlaces live all k places rest → places ≡ all
places_whole live all k places rest e are =
    sym (append-nil places) ∙ ap (λ (j : ℕ). places ++ places_in live j rest) (sym e) ∙ are.is

pub place_added : (live : List Bool) (all : List (Placement FormCell)) (k m : ℕ) (places new : List (Placement FormCell))
    (rest next : List ℕ) (place : Placement FormCell) → k ≡ suc m → new ≡ places ++ place ∷ []
    → place ≡ place_in live (slice_index rest 0) (drop 1 rest) → next ≡ drop (1 + place_rest live (slice_index rest 0)) rest
    → ArePlaces live all k places rest → ArePlaces live all m new next
place_added live all k m places new rest next place e items is to are =
    let steps = steps_on live m rest (subst (λ (j : ℕ). IsTrue (places_stand live j rest)) e are.stand) in record {
      is = ap (λ (ps : List (Placement FormCell)). ps ++ places_in live m next) items
          ∙ append_assoc places (place ∷ []) (places_in live m next) ∙ (λ i. places ++ is i ∷ places_in live m (to i))
          ∙ ap (λ (ps : List (Placement FormCell)). places ++ ps) (sym steps.places)
          ∙ ap (λ (j : ℕ). places ++ places_in live j rest) (sym e) ∙ are.is;
      stand = subst (λ (b : List ℕ). IsTrue (places_stand live m b)) (sym to) steps.others;
    }
