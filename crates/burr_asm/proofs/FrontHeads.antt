-- The line with which a procedure begins or another one ends: what the code has then, as the rules
-- have it.
use Rattle.std.proofs.Common.{◌≡◌, ℕ, ◌+◌, Bool, not, Option, None, List, [], ◌∷◌, ◌++◌, length, refl, sym, ap, ◌∙◌, subst, arith}
use Rattle.std.specs.Prelude.{if◌then◌else◌, ◌&&◌, nat_lt}
use Rattle.std.specs.List.{flat_map}
use Rattle.std.proofs.lemmas.List.{length-append, length-map, map-append}
use Rattle.std.proofs.lemmas.Grind.{flat_map-append}
use Rattle.burr_code.specs.declared.limits.TheConstants.{MOST_PROCEDURES, MOST_PARAMETERS}
use Rattle.burr_plantext.specs.Rules.Written.{is_within}
use Rattle.burr_plantext.specs.Rules.Lines.{PlanWords, ProcedureWords}
use Rattle.burr_plantext.specs.Rules.Sources.{ProcedureSource, procedure_lines}
use Rattle.burr_plantext.specs.Rules.Meaning.{procedure_names}
use Rattle.burr_plantext.specs.Rules.Checks.{FaultKind, P2, P3, P4, unless, is_empty, is_known, is_result_count, head_check}
use Rattle.burr_asm.specs.declared.text.signature.Signature.{Signature}
use Rattle.burr_asm.specs.Views.Exits.{IsSignature}
use Rattle.burr_asm.specs.Views.Routines.{RoutineParts, OutlineParts, begun, head_refusal, titled_outline, with_name, with_routine}
use Rattle.burr_asm.specs.Views.Beginnings.{AreEnded, IsEnded, BeforeLabels}
use Rattle.burr_asm.specs.Views.Fronts.{IsOutline}

ended_empty : (number : ℕ → ℕ) (start version : ℕ) (rs : List RoutineParts)
    (ps : List ProcedureSource) → AreEnded number start version rs ps → is_empty rs ≡ is_empty ps
ended_empty number start version [] [] are = refl
ended_empty number start version [] (p ∷ ps) are = absurd are
ended_empty number start version (r ∷ rs) [] are = absurd are
ended_empty number start version (r ∷ rs) (p ∷ ps) are = refl

-- what is wrong with a procedure's first line, after `many` procedures with these names
abbrev head_judged : List (List ℕ) → Bool → ℕ → ProcedureWords → Option FaultKind
head_judged names main many h =
    unless (not (is_known names h.name)) P2
    (unless (is_within 0 (if main then 0 else MOST_PARAMETERS) h.parameters
    && is_result_count (if main then 0 else 2) h.results) P3
    (unless (nat_lt many MOST_PROCEDURES) P4 None))

-- The code judges a procedure's first line as the rules do.
pub head_same : (number : ℕ → ℕ) (o : OutlineParts) (title : PlanWords)
    (before : List ProcedureSource) (h : ProcedureWords)
    → IsOutline number o title before (procedure_names before)
    → head_refusal o h ≡ head_check before h
head_same number o title before h is =
    let names = is.names in
    let main = ended_empty number 1 title.version o.ended before is.ended in
    let many : length o.names ≡ length before =
    ap length names ∙ length-map before (λ (p : ProcedureSource). p.head.name) in
    λ i. head_judged (names i) (main i) (many i) h

-- A plan whose first line has been read, and no other.
pub outline_titled : (number : ℕ → ℕ) (title : PlanWords)
    → IsOutline number (titled_outline title) title [] []
outline_titled number title = record {
  version_is = refl;
  name_is = refl;
  pieces_are = refl;
  budget_is = refl;
  names = refl;
  ended = tt;
}

-- The plan with one procedure more that has begun.
pub outline_begun : (number : ℕ → ℕ) (o : OutlineParts) (title : PlanWords)
    (before : List ProcedureSource) (names : List (List ℕ)) (name : List ℕ)
    → IsOutline number o title before names
    → IsOutline number (with_name o name) title before (names ++ name ∷ [])
outline_begun number o title before names name is = record {
  version_is = is.version_is;
  name_is = is.name_is;
  pieces_are = is.pieces_are;
  budget_is = is.budget_is;
  names = ap (λ (ns : List (List ℕ)). ns ++ name ∷ []) is.names;
  ended = is.ended;
}

-- Procedures that have ended, with one more after them.
pub ended_more : (number : ℕ → ℕ) (start version : ℕ) (rs : List RoutineParts) (r : RoutineParts)
    (ps : List ProcedureSource) (p : ProcedureSource) → AreEnded number start version rs ps
    → IsEnded number (start + length (flat_map procedure_lines ps)) version r p
    → AreEnded number start version (rs ++ r ∷ []) (ps ++ p ∷ [])
ended_more number start version [] r [] p are is =
    let none : start + 0 ≡ start = omega arith in
    (subst (λ (n : ℕ). IsEnded number n version r p) none is, tt)
ended_more number start version [] r (q ∷ ps) p are is = absurd are
ended_more number start version (s ∷ rs) r [] p are is = absurd are
ended_more number start version (s ∷ rs) r (q ∷ ps) p are is =
    let long = length-append (procedure_lines q) (flat_map procedure_lines ps) in
    let moved : start + length (flat_map procedure_lines (q ∷ ps))
    ≡ (start + length (procedure_lines q)) + length (flat_map procedure_lines ps) =
    omega (arith, long) in (
      are.0,
      ended_more number (start + length (procedure_lines q)) version rs r ps p are.1
          (subst (λ (n : ℕ). IsEnded number n version r p) moved is),
    )

-- The plan with the procedure that ends.
pub outline_ended : (number : ℕ → ℕ) (o : OutlineParts) (r : RoutineParts) (title : PlanWords)
    (before : List ProcedureSource) (p : ProcedureSource)
    → IsOutline number o title before (procedure_names before ++ p.head.name ∷ [])
    → IsEnded number (1 + length (flat_map procedure_lines before)) title.version r p
    → IsOutline number (with_routine o r) title (before ++ p ∷ [])
    (procedure_names (before ++ p ∷ []))
outline_ended number o r title before p is ends = record {
  version_is = is.version_is;
  name_is = is.name_is;
  pieces_are = is.pieces_are;
  budget_is = is.budget_is;
  names = is.names ∙ sym (map-append (λ (q : ProcedureSource). q.head.name) before (p ∷ []));
  ended = ended_more number 1 title.version o.ended r before p is.ended ends;
}

-- how many lines procedures have, with one more
pub lines_more : (ps : List ProcedureSource) (p : ProcedureSource)
    → length (flat_map procedure_lines (ps ++ p ∷ []))
    ≡ length (flat_map procedure_lines ps) + length (procedure_lines p)
lines_more ps p =
    let both = ap length (flat_map-append procedure_lines ps (p ∷ [])) in
    omega (arith, both, length-append (flat_map procedure_lines ps) (flat_map procedure_lines (p ∷ [])), length-append (procedure_lines p) [])

-- A procedure whose first line has been read, and no other.
pub routine_begun : (number : ℕ → ℕ) (place start version : ℕ) (s : Signature)
    (h : ProcedureWords) → IsSignature s version h → place ≡ start + 1
    → BeforeLabels number place start version (begun s) h None 1
routine_begun number place start version s h is next = record {
  routine =
      record { signature = is; exit_is = refl; labels = refl; size = refl; code = refl };
  names = refl;
  next = next;
}
