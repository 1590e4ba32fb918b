-- The end of the text after the code of the last procedure.
use Rattle.std.proofs.Common.{◌≡◌, inl, inr, ℕ, suc, ◌+◌, List, map, refl, sym, ap, ◌∙◌, arith}
use Rattle.std.specs.Prelude.{Option, Some, None, Result, Ok, Err, MatchResult}
use Rattle.std.specs.List.{flat_map}
use Rattle.std.proofs.lemmas.Option.{none-some}
use Rattle.burr_container.specs.Rules.Plans.{Plan}
use Rattle.burr_plantext.specs.Rules.Lines.{PlanWords}
use Rattle.burr_plantext.specs.Rules.Sources.{ProcedureSource, PlanSource}
use Rattle.burr_plantext.specs.Rules.Meaning.{plan_of, procedure_in, procedure_names}
use Rattle.burr_plantext.specs.Rules.Right.{unknown_in, unknown_names, first_true, one_later}
use Rattle.burr_plantext.specs.Rules.Checks.{P2}
use Rattle.burr_plantext.specs.Rules.Faults.{PlacedFault, with_known_names}
use Rattle.burr_asm.specs.declared.fault.AsmFault.{AsmFault}
use Rattle.burr_asm.specs.declared.fault.AsmFault.TheVariants as fault
use Rattle.burr_asm.specs.Views.Faults.{IsUnknown}
use Rattle.burr_asm.specs.Views.Routines.{OutlineParts, plan_of_outline, unknown_line, unknown_among, procedures_of}
use Rattle.burr_asm.specs.Views.Fronts.{IsOutline, IsPlanOf}
use Rattle.burr_asm.proofs.UnknownNames.{placed, first_in_all}
use Rattle.burr_asm.proofs.PlanRead.{procedures_read}

-- a plan of these procedures
abbrev pub source_of : PlanWords → List ProcedureSource → PlanSource
source_of title procedures = record { title = title; procedures = procedures }

-- the names of a source, where nothing else is wrong with it
abbrev pub named : PlanSource → Result PlanSource PlacedFault
named s = with_known_names s (first_true (unknown_names s))

module _ (number : ℕ → ℕ) (o : OutlineParts) (title : PlanWords) (ps : List ProcedureSource) (h : IsOutline number o title ps (procedure_names ps)) where
  unknown_is : unknown_line o ≡ placed number 1 (first_true (flat_map (unknown_in (procedure_names ps)) ps))
  unknown_is = ap (λ (names : List (List ℕ)). unknown_among names o.ended) h.names ∙ first_in_all number title.version (procedure_names ps) 1 o.ended ps h.ended

  plan_is : plan_of_outline o ≡ plan_of (source_of title ps)
  plan_is =
      let procedures : procedures_of o.names o.ended ≡ map (procedure_in (procedure_names ps)) ps =
      ap (λ (names : List (List ℕ)). procedures_of names o.ended) h.names ∙ procedures_read number 1 title.version (procedure_names ps) o.ended ps h.ended in
      λ i. record { version = h.version_is i; name = h.name_is i; pieces = h.pieces_are i; budget = h.budget_is i; procedures = procedures i }

  -- Where all names are known, the plan is that of the source; else the first line with an unknown
  -- one is the fault.
  pub resolved_is : (result : Result Plan AsmFault) → MatchResult result (λ plan. (unknown_line o ≡ None) × (plan ≡ plan_of_outline o)) (IsUnknown (unknown_line o)) → IsPlanOf number (named (source_of title ps)) result
  resolved_is result told = by (first_true (flat_map (unknown_in (procedure_names ps)) ps)) refl result told
    where
      found : Option ℕ
      found = first_true (flat_map (unknown_in (procedure_names ps)) ps)

      by : (f : Option ℕ) → found ≡ f → (result : Result Plan AsmFault) → MatchResult result (λ plan. (unknown_line o ≡ None) × (plan ≡ plan_of_outline o)) (IsUnknown (unknown_line o)) → IsPlanOf number (named (source_of title ps)) result
      by None e (Ok plan) told = (source_of title ps, ap (λ (f : Option ℕ). with_known_names (source_of title ps) (one_later f)) e, told.1 ∙ plan_is)
      by None e (Err at) (inl memory) = inl memory
      by None e (Err at) (inr (line, is, told)) = absurd (none-some line (sym (unknown_is ∙ ap (placed number 1) e) ∙ is))
      by (Some k) e (Ok plan) told = absurd (none-some (number (1 + k)) (sym told.0 ∙ unknown_is ∙ ap (placed number 1) e))
      by (Some k) e (Err at) (inl memory) = inl memory
      by (Some k) e (Err at) (inr (line, is, told)) =
          inr ((P2, suc k), ap (λ (f : Option ℕ). with_known_names (source_of title ps) (one_later f)) e, told ∙ ap fault.P2 (same (sym is ∙ unknown_is ∙ ap (placed number 1) e)))
        where
          some : ◌≡◌ {A = Option ℕ} (Some line) (Some (number (1 + k))) → line ≡ number (1 + k)
          some e = cc

          same : ◌≡◌ {A = Option ℕ} (Some line) (Some (number (1 + k))) → line ≡ number (suc k)
          same e = some e ∙ ap number (omega arith)
