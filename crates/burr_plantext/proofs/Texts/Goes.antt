-- What lines of a source lead to: from one beginning to another.
use Rattle.std.proofs.Common.{◌≡◌, ◌≢◌, ℕ, suc, ◌==◌, List, [], ◌∷◌, ◌++◌, length, map, Bool, IsTrue, refl, sym, ap, subst, ◌∙◌, append_assoc, append-nil, length-append, eq-eqb, arith, Option, Some, None, is_none, Ok, if◌then◌else◌, ne_eqb}
use Rattle.std.proofs.lemmas.Bool.{and_parts}
use Rattle.burr_plantext.specs.Rules.Lines.{Line}
use Rattle.burr_plantext.specs.Rules.Texts.{LineRead, Reads}
use Rattle.burr_plantext.specs.Rules.Checks.{FaultKind}
use Rattle.burr_plantext.specs.Rules.Right.{each_after}
use Rattle.burr_plantext.specs.Rules.Faults.{Beginning, LineResult, judged, and_next, with_line, with_lines}
use Rattle.std.proofs.lemmas.List.{map-append}
use native.Mathlib.Decide.{ℕ_discrete}

-- whatever follows them, these lines lead from one beginning to the other
abbrev pub Goes : Beginning → List Line → Beginning → Type 0
Goes b lines c =
    (p : ℕ) (rest : List LineRead) → (q : ℕ) × (with_lines p b (map Reads lines ++ rest) ≡ with_lines q c rest)

pub goes_nowhere : (b : Beginning) → Goes b [] b
goes_nowhere b p rest = (p, refl)

-- one line, and what it leads to goes on
pub goes_on : (b c d : Beginning) (line : Line) (lines : List Line)
    → ((p : ℕ) → with_line p b (Reads line) ≡ Ok c) → Goes c lines d → Goes b (line ∷ lines) d
goes_on b c d line lines step more p rest =
    let h = more (suc p) rest in
    (h.0, ap (λ (r : LineResult). and_next r (λ next. with_lines (suc p) next (map Reads lines ++ rest))) (step p) ∙ h.1)

-- one after the other
pub goes_both : (b c d : Beginning) (xs ys : List Line) → Goes b xs c → Goes c ys d → Goes b (xs ++ ys) d
goes_both b c d xs ys first second p rest =
    let h = first p (map Reads ys ++ rest) in
    let k = second h.0 rest in
    let e : map Reads (xs ++ ys) ++ rest ≡ map Reads xs ++ (map Reads ys ++ rest) =
    ap (λ (s : List LineRead). s ++ rest) (map-append Reads xs ys) ∙ append_assoc (map Reads xs) (map Reads ys) rest in
    (k.0, ap (λ (s : List LineRead). with_lines p b s) e ∙ h.1 ∙ k.1)

pub none_of : {A : Type 0} (o : Option A) → IsTrue (is_none o) → o ≡ None
none_of None h = refl
none_of (Some x) h = grind arith

-- a line with which nothing is wrong
pub step_of : (b c : Beginning) (line : Line) (check : Option FaultKind)
    → ((p : ℕ) → with_line p b (Reads line) ≡ judged p check c) → IsTrue (is_none check)
    → (p : ℕ) → with_line p b (Reads line) ≡ Ok c
step_of b c line check step right p = step p ∙ ap (λ (o : Option FaultKind). judged p o c) (none_of check right)

-- lines of one kind, each after those before it
module _ {A : Type 0} (line : A → Line) (state : List A → Beginning) (check : List A → A → Option FaultKind)
    (step : (before : List A) (x : A) (p : ℕ) → with_line p (state before) (Reads (line x)) ≡ judged p (check before x) (state (before ++ x ∷ []))) where
  pub goes_each : (before xs : List A) → IsTrue (each_after (λ b x. is_none (check b x)) before xs)
      → Goes (state before) (map line xs) (state (before ++ xs))
  goes_each before [] right = subst (λ (s : List A). Goes (state before) [] (state s)) (sym (append-nil before)) (goes_nowhere (state before))
  goes_each before (x ∷ xs) right =
      let parts = and_parts (is_none (check before x)) (each_after (λ b x. is_none (check b x)) (before ++ x ∷ []) xs) right in
      let more = subst (λ (s : List A). Goes (state (before ++ x ∷ [])) (map line xs) (state s)) (append_assoc before (x ∷ []) xs) (goes_each (before ++ x ∷ []) xs parts.1) in
      goes_on (state before) (state (before ++ x ∷ [])) (state (before ++ (x ∷ xs))) (line x) (map line xs)
      (step_of (state before) (state (before ++ x ∷ [])) (line x) (check before x) (step before x) parts.0) more

-- lines of one kind; there have to be n of them
module _ {A : Type 0} (n : ℕ) (line : A → Line) (state ended : List A → Beginning) (check : List A → A → Option FaultKind)
    (step : (before : List A) (x : A) (p : ℕ) → with_line p (state before) (Reads (line x)) ≡ judged p (check before x) (if length (before ++ x ∷ []) == n then ended (before ++ x ∷ []) else state (before ++ x ∷ []))) where
  pub goes_counted : (before xs : List A) → IsTrue (each_after (λ b x. is_none (check b x)) before xs)
      → length (before ++ xs) ≡ n → length before ≢ n
      → Goes (state before) (map line xs) (ended (before ++ xs))
  goes_counted before [] right size short = absurd (short (ap (λ (s : List A). length s) (sym (append-nil before)) ∙ size))
  goes_counted before (x ∷ xs) right size short =
      let parts = and_parts (is_none (check before x)) (each_after (λ b x. is_none (check b x)) (before ++ x ∷ []) xs) right in
      elim (ℕ_discrete (length (before ++ x ∷ [])) n) [
        | yes e ↦ last xs e size parts.0
        | no h ↦ goes_on (state before) (state (before ++ x ∷ [])) (ended (before ++ (x ∷ xs))) (line x) (map line xs)
            (leads (state (before ++ x ∷ [])) (ap (λ (t : Bool). if t then ended (before ++ x ∷ []) else state (before ++ x ∷ [])) (ne_eqb (length (before ++ x ∷ [])) n h)) parts.0)
            (subst (λ (s : List A). Goes (state (before ++ x ∷ [])) (map line xs) (ended s)) (append_assoc before (x ∷ []) xs)
            (goes_counted (before ++ x ∷ []) xs parts.1 (ap (λ (s : List A). length s) (append_assoc before (x ∷ []) xs) ∙ size) h))
      ]
    where
      leads : (c : Beginning) → (if length (before ++ x ∷ []) == n then ended (before ++ x ∷ []) else state (before ++ x ∷ [])) ≡ c → IsTrue (is_none (check before x))
          → (p : ℕ) → with_line p (state before) (Reads (line x)) ≡ Ok c
      leads c e right = step_of (state before) c (line x) (check before x) (λ p. step before x p ∙ ap (λ (c : Beginning). judged p (check before x) c) e) right

      last : (xs : List A) → length (before ++ x ∷ []) ≡ n → length (before ++ (x ∷ xs)) ≡ n → IsTrue (is_none (check before x))
          → Goes (state before) (map line (x ∷ xs)) (ended (before ++ (x ∷ xs)))
      last [] e size right = goes_on (state before) (ended (before ++ x ∷ [])) (ended (before ++ x ∷ [])) (line x) []
          (leads (ended (before ++ x ∷ [])) (ap (λ (t : Bool). if t then ended (before ++ x ∷ []) else state (before ++ x ∷ [])) (eq-eqb (length (before ++ x ∷ [])) n e)) right)
          (goes_nowhere (ended (before ++ x ∷ [])))
      last (y ∷ ys) e size right = absurd (omega (arith, e, size, length-append before (x ∷ []), length-append before (x ∷ y ∷ ys)))
