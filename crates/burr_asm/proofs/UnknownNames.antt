-- The line of the first unknown name, as the code finds it, is that of the rules.
use Rattle.std.proofs.Common.{◌≡◌, ℕ, suc, ◌+◌, List, [], ◌∷◌, ◌++◌, length, map, Bool, true, false, refl, sym, ap, ◌∙◌, arith}
use Rattle.std.specs.Prelude.{Option, Some, None, if◌then◌else◌}
use Rattle.std.specs.List.{flat_map}
use Rattle.burr_plantext.specs.Rules.Lines.{Line, CodeLine}
use Rattle.burr_plantext.specs.Rules.Sources.{ProcedureSource, procedure_lines}
use Rattle.burr_plantext.specs.Rules.Checks.{names_unknown}
use Rattle.burr_plantext.specs.Rules.Meaning.{label_names}
use Rattle.burr_plantext.specs.Rules.Right.{has_unknown_name, unknown_in, first_true, one_later}
use Rattle.burr_asm.specs.Views.CodeParts.{first_unknown}
use Rattle.burr_asm.specs.Views.Routines.{RoutineParts, line_or, unknown_among}
use Rattle.burr_asm.specs.Views.Beginnings.{code_lines, AreEnded}

-- the number of the line that is k places after the one at `start`, if there is a k
abbrev pub placed : (ℕ → ℕ) → ℕ → Option ℕ → Option ℕ
placed number start None = None
placed number start (Some k) = Some (number (start + k))

placed_later : (number : ℕ → ℕ) (start : ℕ) (o : Option ℕ) → placed number (suc start) o ≡ placed number start (one_later o)
placed_later number start None = refl
placed_later number start (Some k) = ap (λ (n : ℕ). Some (number n)) (omega arith)

-- a line without code has no unknown name
module _ (number : ℕ → ℕ) (labels procedures : List (List ℕ)) where
  -- what the code finds among lines of code is what the rules find among all lines
  pub first_among : (lines : List Line) (start : ℕ)
      → first_unknown labels procedures (code_lines number start lines) ≡ placed number start (first_true (map (has_unknown_name labels procedures) lines))
  first_among [] start = refl
  first_among (CodeLine s ∷ lines) start = grind (arith, first_among lines (suc start), placed_later number start (first_true (map (has_unknown_name labels procedures) lines)))
  first_among (_ ∷ lines) start = first_among lines (suc start) ∙ placed_later number start _

-- the first among two lists, one after the other
abbrev pub first_or : Option ℕ → ℕ → Option ℕ → Option ℕ
first_or (Some k) n other = Some k
first_or None n None = None
first_or None n (Some k) = Some (n + k)

later_or : (o : Option ℕ) (n : ℕ) (other : Option ℕ) → one_later (first_or o n other) ≡ first_or (one_later o) (suc n) other
later_or (Some k) n other = refl
later_or None n None = refl
later_or None n (Some k) = ap (λ (m : ℕ). Some m) (omega arith)

first_of_none : (other : Option ℕ) → other ≡ first_or None 0 other
first_of_none None = refl
first_of_none (Some k) = ap (λ (m : ℕ). Some m) (omega arith)

first_of_two : (xs ys : List Bool) → first_true (xs ++ ys) ≡ first_or (first_true xs) (length xs) (first_true ys)
first_of_two [] ys = first_of_none (first_true ys)
first_of_two (true ∷ xs) ys = refl
first_of_two (false ∷ xs) ys = ap one_later (first_of_two xs ys) ∙ later_or (first_true xs) (length xs) (first_true ys)

placed_or : (number : ℕ → ℕ) (start n : ℕ) (o other : Option ℕ) → line_or (placed number start o) (placed number (start + n) other) ≡ placed number start (first_or o n other)
placed_or number start n (Some k) other = refl
placed_or number start n None None = refl
placed_or number start n None (Some k) = ap (λ (n : ℕ). Some (number n)) (omega arith)

length_map : {A B : Type 0} (f : A → B) (xs : List A) → length (map f xs) ≡ length xs
length_map f [] = refl
length_map f (x ∷ xs) = ap suc (length_map f xs)

-- The code finds among procedures what the rules find among theirs.
pub first_in_all : (number : ℕ → ℕ) (version : ℕ) (procedures : List (List ℕ)) (start : ℕ) (rs : List RoutineParts) (ps : List ProcedureSource) → AreEnded number start version rs ps
    → unknown_among procedures rs ≡ placed number start (first_true (flat_map (unknown_in procedures) ps))
first_in_all number version procedures start [] [] h = refl
first_in_all number version procedures start [] (p ∷ ps) h = absurd h
first_in_all number version procedures start (r ∷ rs) [] h = absurd h
first_in_all number version procedures start (r ∷ rs) (p ∷ ps) ((routine, names), more) =
    let one : first_unknown r.names procedures r.code.statements ≡ placed number start (first_true (unknown_in procedures p)) =
    (λ i. first_unknown (names i) procedures (routine.code i)) ∙ first_among number (label_names p.blocks) procedures (procedure_lines p) start in
    let all = first_in_all number version procedures (start + length (procedure_lines p)) rs ps more in
    let size = length_map (has_unknown_name (label_names p.blocks) procedures) (procedure_lines p) in
    (λ i. line_or (one i) (all i))
    ∙ placed_or number start (length (procedure_lines p)) (first_true (unknown_in procedures p)) (first_true (flat_map (unknown_in procedures) ps))
    ∙ ap (placed number start) (ap (λ (n : ℕ). first_or (first_true (unknown_in procedures p)) n (first_true (flat_map (unknown_in procedures) ps))) (sym size) ∙ sym (first_of_two (unknown_in procedures p) (flat_map (unknown_in procedures) ps)))
