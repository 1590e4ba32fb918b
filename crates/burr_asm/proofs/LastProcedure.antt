-- The last procedure of a text, where the text ends.
use Rattle.std.proofs.Common.{◌≡◌, inl, inr, ℕ, List, [], ◌∷◌, ◌++◌, Bool, true, false, not, refl, sym, ap, subst, ◌∙◌}
use Rattle.std.specs.Prelude.{Option, None, Result, Ok, Err, MatchResult}
use Rattle.burr_container.specs.Rules.Plans.{Plan}
use Rattle.burr_plantext.specs.Rules.Sources.{ExitSource, Block, ProcedureSource, PlanSource}
use Rattle.burr_plantext.specs.Rules.Meaning.{procedure_names}
use Rattle.burr_plantext.specs.Rules.Right.{unknown_names, first_true}
use Rattle.burr_plantext.specs.Rules.Checks.{P1, has_code}
use Rattle.burr_plantext.specs.Rules.Faults as faults
use Rattle.burr_plantext.specs.Rules.Faults.{Beginning, Blank, Titled, Within, OpenProcedure, PlacedFault, and_next, at_label, end_within, ended_with, needing, with_known_names}
use Rattle.burr_asm.specs.declared.fault.AsmFault.{AsmFault}
use Rattle.burr_asm.specs.declared.fault.AsmFault.TheVariants as fault
use Rattle.burr_asm.specs.declared.text.stage.Stage.{Stage}
use Rattle.burr_asm.specs.declared.text.stage.Stage.TheVariants.{InCode}
use Rattle.burr_asm.specs.declared.text.front.Front.{Front}
use Rattle.burr_asm.specs.declared.text.front.Front.TheVariants.{AwaitsPlan, AwaitsMain, InProcedure}
use Rattle.burr_asm.specs.declared.text.front.UnderWay.{UnderWay}
use Rattle.burr_asm.specs.Views.Faults.{IsUnknown}
use Rattle.burr_asm.specs.Views.Routines.{RoutineParts, OutlineParts, IsLabelAtEnd, ends_with_label, plan_of_outline, unknown_line, with_routine}
use Rattle.burr_asm.specs.Views.Beginnings.{AfterFrame, IsStage}
use Rattle.burr_asm.specs.Views.Fronts.{IsFaultOf, IsFront, IsOutline, IsPlanOf, ending, in_procedure, names_begun, start_of}
use Rattle.burr_asm.specs.Views.Steps.{EndsStage}
use Rattle.burr_asm.proofs.Finishing.{resolved_is, source_of}
use Rattle.burr_asm.proofs.StageLabels.{last_has_code}
use Rattle.burr_asm.proofs.FrontHeads.{outline_ended}

-- after a frame the code and the rules are there both
pub after_frame : (number : ℕ → ℕ) (place : ℕ) (u : OpenProcedure) (r : RoutineParts) (stage : Stage) (exit : Option ExitSource) (blocks : List Block) (b : Block)
    → IsStage number place (start_of u) u.title.version r u.head stage (faults.InCode exit blocks b) → AfterFrame number place (start_of u) u.title.version r u.head exit blocks b
after_frame number place u r InCode exit blocks b h = h
after_frame number place u r _ exit blocks b h = absurd h

-- what comes of the end of a text, where it gives a source
abbrev then_named : Result PlanSource PlacedFault → Result PlanSource PlacedFault
then_named given = and_next given (λ s. with_known_names s (first_true (unknown_names s)))

-- The text may not end in this stage.
pub stage_fails : (number : ℕ → ℕ) (place n : ℕ) (o : OutlineParts) (r : RoutineParts) (stage : Stage) (b : Beginning) (e : AsmFault) → n ≡ number place → IsFront number place (in_procedure o r stage) b
    → EndsStage {A = Unit {0}} stage n (Err e) → IsFaultOf number (ending place b) e
stage_fails number place n o r stage Blank e is h ends = absurd h
stage_fails number place n o r stage (Titled title) e is h ends = absurd h
stage_fails number place n o r stage (Within u t) e is h ends =
    let told = ends number place u r t is h.1 in
    inr (told.0, ap then_named told.1, told.2)

module _ (number : ℕ → ℕ) (place : ℕ) (o : OutlineParts) (r : RoutineParts) (u : OpenProcedure) (exit : Option ExitSource) (blocks : List Block) (b : Block)
    (h : IsOutline number o u.title u.ended (names_begun u)) (k : AfterFrame number place (start_of u) u.title.version r u.head exit blocks b) where
  -- the last block has code, or the last label stands at the end
  has_code_is : (t : Bool) → ends_with_label r ≡ t → has_code b ≡ not t
  has_code_is t e = sym (last_has_code r blocks b k.routine.labels k.routine.size) ∙ ap not e

  -- what the rules say of the end, where the last block has code or not
  abbrev ending_if : Bool → Result PlanSource PlacedFault
  ending_if t = then_named (needing t (at_label place b) (Ok (source_of u.title (ended_with u exit blocks b))))

  -- A label without code at the end is refused at its own line.
  pub label_fails : (e : AsmFault) → IsLabelAtEnd r e → IsFaultOf number (ending_if (has_code b)) e
  label_fails e (inl memory) = inl memory
  label_fails e (inr (ends, is)) = inr (at_label place b, ap ending_if (has_code_is true ends), is ∙ ap fault.P4 k.last)

  -- The text may end here.
  pub text_is_whole : (whole : OutlineParts) (result : Result Plan AsmFault) → ends_with_label r ≡ false → whole ≡ with_routine o r
      → MatchResult result (λ plan. (unknown_line whole ≡ None) × (plan ≡ plan_of_outline whole)) (IsUnknown (unknown_line whole))
      → IsPlanOf number (ending_if (has_code b)) result
  text_is_whole whole result ends is told =
      let p : ProcedureSource = record { head = u.head; exit = exit; blocks = blocks ++ b ∷ [] } in
      let outline = outline_ended number o r u.title u.ended p h (k.routine, k.names) in
      let ps = ended_with u exit blocks b in
      subst (λ (given : Result PlanSource PlacedFault). IsPlanOf number given result)
      (sym (ap ending_if (has_code_is false ends)))
      (resolved_is number whole u.title ps (subst (λ (w : OutlineParts). IsOutline number w u.title ps (procedure_names ps)) (sym is) outline) result told)

module _ (number : ℕ → ℕ) (place n : ℕ) (f : Front) (o : OutlineParts) (r : RoutineParts) (stage : Stage) (b : Beginning) (same : f ≡ in_procedure o r stage) (is : n ≡ number place) (h : IsFront number place f b) where
  front_is : IsFront number place (in_procedure o r stage) b
  front_is = subst (λ (g : Front). IsFront number place g b) same h

  -- the text may not end in this stage
  pub ends_too_early : (e : AsmFault) (result : Result Plan AsmFault) → result ≡ Err e → EndsStage {A = Unit {0}} stage n (Err e) → IsPlanOf number (ending place b) result
  ends_too_early e result err ends = subst (λ (r : Result Plan AsmFault). IsPlanOf number (ending place b) r) (sym err) (stage_fails number place n o r stage b e is front_is ends)

  -- it may, but the last label has no code after it
  pub ends_with_bare_label : (e : AsmFault) (result : Result Plan AsmFault) (done : Unit {0}) → result ≡ Err e → EndsStage {A = Unit {0}} stage n (Ok done) → IsLabelAtEnd r e → IsPlanOf number (ending place b) result
  ends_with_bare_label e result done err ends bare = subst (λ (r : Result Plan AsmFault). IsPlanOf number (ending place b) r) (sym err) (by b front_is)
    where
      by : (b : Beginning) → IsFront number place (in_procedure o r stage) b → IsFaultOf number (ending place b) e
      by Blank h = absurd h
      by (Titled title) h = absurd h
      by (Within u t) h =
          let (exit, blocks, last, at) = ends number place u r t is h.1 in
          let after = after_frame number place u r stage exit blocks last (subst (λ (t : faults.Stage). IsStage number place (start_of u) u.title.version r u.head stage t) at h.1) in
          subst (λ (t : faults.Stage). IsFaultOf number (then_named (end_within place u t)) e) (sym at) (label_fails number place o r u exit blocks last h.0 after e bare)

  -- it may, and all names are known or not
  pub ends_well : (whole : OutlineParts) (result : Result Plan AsmFault) (done : Unit {0}) → EndsStage {A = Unit {0}} stage n (Ok done) → ends_with_label r ≡ false → whole ≡ with_routine o r
      → MatchResult result (λ plan. (unknown_line whole ≡ None) × (plan ≡ plan_of_outline whole)) (IsUnknown (unknown_line whole)) → IsPlanOf number (ending place b) result
  ends_well whole result done ends full more told = by b front_is
    where
      by : (b : Beginning) → IsFront number place (in_procedure o r stage) b → IsPlanOf number (ending place b) result
      by Blank h = absurd h
      by (Titled title) h = absurd h
      by (Within u t) h =
          let (exit, blocks, last, at) = ends number place u r t is h.1 in
          let after = after_frame number place u r stage exit blocks last (subst (λ (t : faults.Stage). IsStage number place (start_of u) u.title.version r u.head stage t) at h.1) in
          subst (λ (t : faults.Stage). IsPlanOf number (then_named (end_within place u t)) result) (sym at) (text_is_whole number place o r u exit blocks last h.0 after whole result full more told)

-- The text may not end before its first procedure.
pub ends_before : (number : ℕ → ℕ) (place n : ℕ) (f : Front) (b : Beginning) → ((w : UnderWay) → f ≡ InProcedure w → ⊥) → n ≡ number place → IsFront number place f b → IsFaultOf number (ending place b) (fault.P1 n)
ends_before number place n AwaitsPlan Blank other is h = inr ((P1, place), refl, ap fault.P1 is)
ends_before number place n (AwaitsMain o) (Titled title) other is h = inr ((P1, place), refl, ap fault.P1 is)
ends_before number place n (InProcedure w) b other is h = absurd (other w refl)
ends_before number place n _ _ other is h = absurd h
