-- A stretch of lines takes a beginning to another, whatever stands after it and at whichever line it begins.
use Rattle.std.proofs.Common.{◌≡◌, ℕ, ◌+◌, ◌<◌, List, [], ◌∷◌, ◌++◌, length, get_or, AllPairs, Result, Ok, refl, sym, subst, arith, inr, append_assoc}
use Rattle.std.proofs.lemmas.List.{get_or_append_left, get_or_at, length-append}
use Rattle.burr_assembly.specs.declared.fault.AssemblyFault.{AssemblyFault}
use Rattle.burr_assembly.specs.Rules.Text.{Assembly}
use Rattle.burr_assembly.specs.Rules.Lines.{LineForm, form_text, IsLineForm}
use Rattle.burr_assembly.specs.Rules.Faults.{Beginning, FormGives, TextGives, goes_on}
use Rattle.burr_assembly.proofs.Clear.{unended_form}

-- the lines take the beginning to the next
pub record Goes (so_far : Beginning) (stretch : List ℕ) (next : Beginning) : Type 0 where
  pub on : (rest : List ℕ) (answer : Result Assembly AssemblyFault) → ((m : ℕ) → TextGives m next rest answer) → (n : ℕ) → TextGives n so_far (stretch ++ rest) answer

-- no line
pub goes_nowhere : (so_far : Beginning) → Goes so_far [] so_far
goes_nowhere so_far = record { on = λ rest answer more. more }

-- one stretch and then another
pub goes_further : (so_far middle next : Beginning) (first second : List ℕ) → Goes so_far first middle → Goes middle second next → Goes so_far (first ++ second) next
goes_further so_far middle next first second f g = record { on = λ rest answer more n. rw append_assoc (f.on (second ++ rest) answer (g.on rest answer more) n) }

-- one line
pub goes_line : (so_far next : Beginning) (form : LineForm) → IsLineForm form → ((n : ℕ) → FormGives n so_far form (Ok next)) → Goes so_far (form_text form ++ 10 ∷ []) next
goes_line so_far next form is rule = record {
  on = λ rest answer more n.
      subst (λ (text : List ℕ). TextGives n so_far text answer) (sym (append_assoc (form_text form) (10 ∷ []) rest))
      (goes_on n so_far next (form_text form) rest answer (unended_form form is) (inr (form, (is, refl), rule n)) (more (n + 1)));
}

-- to where it goes, by an equation
pub goes_to : (so_far next other : Beginning) (stretch : List ℕ) → next ≡ other → Goes so_far stretch next → Goes so_far stretch other
goes_to so_far next other stretch e g = subst (λ (to : Beginning). Goes so_far stretch to) e g

-- three stretches, the first two together
pub goes_regrouped : (so_far next : Beginning) (first second third : List ℕ) → Goes so_far (first ++ (second ++ third)) next → Goes so_far ((first ++ second) ++ third) next
goes_regrouped so_far next first second third g = subst (λ (stretch : List ℕ). Goes so_far stretch next) (sym (append_assoc first second third)) g

-- each earlier element is so with a later one
pub pair_before : {X : Type 0} (R : X → X → Type 0) (xs : List X) (y : X) (ys : List X) → AllPairs R (xs ++ y ∷ ys) → (k : ℕ) (d : X) → k < length xs → R (get_or xs k d) y
pair_before {X} R xs y ys pairs k d lt =
    subst (λ (x : X). R x y) (get_or_append_left xs (y ∷ ys) d k lt)
    (subst (λ (z : X). R (get_or (xs ++ y ∷ ys) k d) z) (get_or_at xs y ys d (length xs) refl)
    (pairs k (length xs) d lt (omega (arith, length-append xs (y ∷ ys)))))
