-- Why the first line of a plan or of a procedure is refused.
use Rattle.std.proofs.Common.{◌≡◌, ℕ, ◌≤◌, List, [], ◌∷◌, length, ◌==◌, Bool, true, false, refl, sym, ap, ◌∙◌, subst, ◌<◌}
use Rattle.std.specs.Prelude.{Option, Some, None, not, nat_lt, ◌&&◌, if◌then◌else◌}
use Rattle.std.specs.Option.{is_some}
use Rattle.std.proofs.Math.Dec.{eqb-suc-zero}
use Rattle.std.proofs.lemmas.Bool.{and_left, and_right, le-ltb, lt-ltb}
use Rattle.burr_code.specs.declared.limits.TheConstants.{MOST_BUDGET, MOST_PARAMETERS, MOST_PROCEDURES}
use Rattle.burr_plantext.specs.Rules.Written.{is_within}
use Rattle.burr_plantext.specs.Rules.Lines.{PlanWords, ProcedureWords}
use Rattle.burr_plantext.specs.Rules.Checks.{FaultKind, P2, P3, P4, unless, is_empty, is_known, is_result_count, title_check}
use Rattle.burr_plantext.specs.Rules.Meaning.{number_of}
use Rattle.burr_asm.specs.declared.fault.AsmFault.TheVariants as fault
use Rattle.burr_asm.specs.Views.Faults.{IsRefusal}
use Rattle.burr_asm.specs.Views.Names.{number_if_known}
use Rattle.burr_asm.specs.Views.Routines.{OutlineParts, are_counts, head_refusal}
use Rattle.burr_asm.proofs.Refusals.{failed, passed, refused}

-- the plan's line with a number of pieces out of its range
pub pieces_refused : (t : PlanWords) (line : ℕ) → is_within 2 32 t.pieces ≡ false → IsRefusal (title_check t) line (fault.P3 line)
pieces_refused t line e =
    refused (title_check t) P3 line (failed (is_within 2 32 t.pieces && is_within 1 MOST_BUDGET t.budget) P3 None (and_left (is_within 2 32 t.pieces) (is_within 1 MOST_BUDGET t.budget) e))

-- with a budget out of its range
pub budget_refused : (t : PlanWords) (line : ℕ) → is_within 1 MOST_BUDGET t.budget ≡ false → IsRefusal (title_check t) line (fault.P3 line)
budget_refused t line e =
    refused (title_check t) P3 line (failed (is_within 2 32 t.pieces && is_within 1 MOST_BUDGET t.budget) P3 None (and_right (is_within 2 32 t.pieces) (is_within 1 MOST_BUDGET t.budget) e))

-- the counts of a procedure, by what was asked first: whether it is main
module _ (o : OutlineParts) (h : ProcedureWords) (main : Bool) (none_ended : main ≡ (length o.ended == 0)) where
  abbrev parameters : Bool → Bool
  parameters main = is_within 0 (if main then 0 else MOST_PARAMETERS) h.parameters

  abbrev results : Bool → Bool
  results main = is_result_count (if main then 0 else 2) h.results

  is_main : main ≡ is_empty o.ended
  is_main = none_ended ∙ by o.ended
    where
      by : {A : Type 0} (xs : List A) → (length xs == 0) ≡ is_empty xs
      by [] = refl
      by (x ∷ xs) = eqb-suc-zero (length xs)

  -- the number of parameters is out of its range
  pub parameters_refused : parameters main ≡ false → are_counts o h ≡ false
  parameters_refused e = and_left (parameters (is_empty o.ended)) (results (is_empty o.ended)) (ap parameters (sym is_main) ∙ e)

  -- it is that of results
  pub results_refused : results main ≡ false → are_counts o h ≡ false
  results_refused e = and_right (parameters (is_empty o.ended)) (results (is_empty o.ended)) (ap results (sym is_main) ∙ e)

  -- both are right
  pub counts_passed : parameters main ≡ true → results main ≡ true → are_counts o h ≡ true
  counts_passed e f = λ i. (ap parameters (sym is_main) ∙ e) i && (ap results (sym is_main) ∙ f) i

-- a name has a number just where it is among the names
some_if : (known : Bool) (number : ℕ) → is_some (if known then Some number else None) ≡ known
some_if true number = refl
some_if false number = refl

-- a name that has no number is not among the names
pub no_number : (known : Bool) (number : ℕ) → false ≡ is_some (if known then Some number else None) → known ≡ false
no_number known number e = sym (e ∙ some_if known number)

module _ (o : OutlineParts) (h : ProcedureWords) (line : ℕ) (names : List (List ℕ)) (same : names ≡ o.names) where
  -- what is wrong with a procedure's line whose name is new, and with one whose counts are right too
  abbrev few : Option FaultKind
  few = unless (nat_lt (length o.names) MOST_PROCEDURES) P4 None

  abbrev counts : Option FaultKind
  counts = unless (are_counts o h) P3 few

  known_is : (t : Bool) → t ≡ is_some (number_if_known names h.name) → not (is_known o.names h.name) ≡ not t
  known_is t told =
      ap (λ (ns : List (List ℕ)). not (is_known ns h.name)) (sym same) ∙ ap not (sym (told ∙ some_if (is_known names h.name) (number_of names h.name)))

  -- a procedure's line with a name that is taken
  pub head_known : true ≡ is_some (number_if_known names h.name) → IsRefusal (head_refusal o h) line (fault.P2 line)
  head_known taken = refused (head_refusal o h) P2 line (failed (not (is_known o.names h.name)) P2 counts (known_is true taken))

  module _ (new : false ≡ is_some (number_if_known names h.name)) where
    new_name : head_refusal o h ≡ counts
    new_name = passed (not (is_known o.names h.name)) P2 counts (known_is false new)

    -- a procedure's line with a new name and a number out of its range
    pub head_counts : are_counts o h ≡ false → IsRefusal (head_refusal o h) line (fault.P3 line)
    head_counts counted = refused (head_refusal o h) P3 line (new_name ∙ failed (are_counts o h) P3 few counted)

    module _ (count : ℕ) (counted : are_counts o h ≡ true) (many : count ≡ length names) where
      right : head_refusal o h ≡ few
      right = new_name ∙ passed (are_counts o h) P3 few counted

      -- one with right numbers, after as many procedures as a plan may have
      pub head_full : MOST_PROCEDURES ≤ count → IsRefusal (head_refusal o h) line (fault.P4 line)
      head_full full =
          refused (head_refusal o h) P4 line (right ∙ failed (nat_lt (length o.names) MOST_PROCEDURES) P4 None (le-ltb (length o.names) MOST_PROCEDURES (subst (λ (n : ℕ). MOST_PROCEDURES ≤ n) (many ∙ ap length same) full)))

      -- and where there is room for one more
      pub head_passed : count < MOST_PROCEDURES → head_refusal o h ≡ None
      head_passed room = right ∙ passed (nat_lt (length o.names) MOST_PROCEDURES) P4 None (lt-ltb (length o.names) MOST_PROCEDURES (subst (λ (n : ℕ). n < MOST_PROCEDURES) (many ∙ ap length same) room))
