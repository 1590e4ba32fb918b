-- What a line makes of what the code has read: a procedure begins, ends or goes on.
use Rattle.std.proofs.Common.{◌≡◌, ℕ, suc, ◌+◌, Bool, true, false, not, Option, None, Result, Ok, Err, List, [], ◌∷◌, ◌++◌, length, refl, sym, ap, ◌∙◌, subst, inl, inr, arith}
use Rattle.std.specs.List.{flat_map}
use Rattle.burr_plantext.specs.Rules.Lines.{Line, PlanWords, ProcedureWords, PlanLine, ProcLine}
use Rattle.burr_plantext.specs.Rules.Sources.{ExitSource, Block, ProcedureSource, procedure_lines}
use Rattle.burr_plantext.specs.Rules.Meaning.{procedure_names}
use Rattle.burr_plantext.specs.Rules.Texts.{Reads}
use Rattle.burr_plantext.specs.Rules.Checks.{FaultKind, P1, is_of_version, head_check, has_code, title_check}
use Rattle.burr_plantext.specs.Rules.Faults as faults
use Rattle.burr_plantext.specs.Rules.Faults.{Beginning, Blank, Titled, Within, within, OpenProcedure, PlacedFault, open_procedure, judged, needing, ended_with, at_label, in_code, with_line}
use Rattle.burr_asm.specs.declared.fault.AsmFault.{AsmFault}
use Rattle.burr_asm.specs.declared.fault.AsmFault.TheVariants as fault
use Rattle.burr_asm.specs.declared.text.line.LineForm.{LineForm}
use Rattle.burr_asm.specs.declared.text.line.LineForm.TheVariants as form
use Rattle.burr_asm.specs.declared.text.line.PlanWords.{PlanWords as PlanParts}
use Rattle.burr_asm.specs.declared.text.line.ProcedureWords.{ProcedureWords as ProcedureParts}
use Rattle.burr_asm.specs.declared.text.stage.Stage.{Stage}
use Rattle.burr_asm.specs.declared.text.stage.Stage.TheVariants as stage
use Rattle.burr_asm.specs.declared.text.front.Front.{Front}
use Rattle.burr_asm.specs.declared.text.front.Front.TheVariants.{AwaitsPlan, AwaitsMain, InProcedure}
use Rattle.burr_asm.specs.declared.text.front.UnderWay.{UnderWay}
use Rattle.burr_asm.specs.Views.LineWords.{line_words, plan_words, procedure_words}
use Rattle.burr_asm.specs.Views.Exits.{IsSignature}
use Rattle.burr_asm.specs.Rules.Faults.{fault_at}
use Rattle.burr_asm.specs.Views.Faults.{IsRefusal}
use Rattle.burr_asm.specs.Views.Routines.{RoutineParts, OutlineParts, begun, ends_with_label, head_refusal, with_name, with_routine, IsLabelAtEnd, titled_outline}
use Rattle.burr_asm.specs.Views.Beginnings.{AfterFrame, BeforeLabels}
use Rattle.burr_asm.specs.Views.Fronts.{IsOutline, IsUnderWay, IsFront, IsFaultOf, IsNext, names_begun, start_of, in_procedure}
use Rattle.burr_asm.specs.Views.Steps.{GivesStage}
use Rattle.burr_asm.specs.Views.FrontSteps.{BeginsMain, NextProcedure, GivesWithin, GivesFront}
use Rattle.burr_asm.proofs.FrontHeads.{head_same, outline_titled, outline_begun, outline_ended, lines_more, routine_begun}
use Rattle.burr_asm.proofs.StageLabels.{last_has_code}
use Rattle.burr_asm.proofs.StageLines.{refused_by, passes}

-- Tests

module _ {A : Type 0} where
  pub needing_not : (t : Bool) (at : PlacedFault) (more : Result A PlacedFault) → t ≡ false
      → needing t at more ≡ Err at
  needing_not t at more fails = ap (λ (t : Bool). needing t at more) fails

  pub needing_so : (t : Bool) (at : PlacedFault) (more : Result A PlacedFault) → t ≡ true
      → needing t at more ≡ more
  needing_so t at more so = ap (λ (t : Bool). needing t at more) so

  pub same_fault : (number : ℕ → ℕ) (given other : Result A PlacedFault) (e : AsmFault)
      → given ≡ other → IsFaultOf number other e → IsFaultOf number given e
  same_fault number given other e same is =
      subst (λ (g : Result A PlacedFault). IsFaultOf number g e) (sym same) is

-- The first line of a procedure

-- what the code has when it has taken a procedure's first line
abbrev pub HasBegun : OutlineParts → ProcedureWords → RoutineParts → OutlineParts → Type 0
HasBegun o h r new =
    (head_refusal o h ≡ None) × (r ≡ begun r.signature) × IsSignature r.signature o.version h
    × (new ≡ with_name o h.name)

pub version_told : (t : Bool) (v version : ℕ) (results : Option (List ℕ))
    → t ≡ is_of_version v results → v ≡ version → t ≡ is_of_version version results
version_told t v version results told same = told ∙ ap (λ (n : ℕ). is_of_version n results) same

of_title : (number : ℕ → ℕ) (o : OutlineParts) (title : PlanWords) (before : List ProcedureSource)
    (names : List (List ℕ)) (h : ProcedureWords) (t : Bool)
    → t ≡ is_of_version o.version h.results → IsOutline number o title before names
    → is_of_version title.version h.results ≡ t
of_title number o title before names h t told is =
    sym (told ∙ ap (λ (n : ℕ). is_of_version n h.results) is.version_is)

-- what the code has of the plan and of a procedure that has begun
head_taken : (number : ℕ → ℕ) (place start : ℕ) (o new : OutlineParts) (r : RoutineParts)
    (title : PlanWords) (before : List ProcedureSource) (h : ProcedureWords) → HasBegun o h r new
    → IsOutline number o title before (procedure_names before) → place ≡ start + 1
    → IsOutline number new title before (procedure_names before ++ h.name ∷ [])
    × BeforeLabels number place start title.version r h None 1
head_taken number place start o new r title before h (passed, is_begun, signature, named) is next =
    let sign = subst (λ (v : ℕ). IsSignature r.signature v h) is.version_is signature in (
      subst (λ (o : OutlineParts). IsOutline number o title before (procedure_names before ++ h.name ∷ []))
          (sym named) (outline_begun number o title before (procedure_names before) h.name is),
      subst (λ (r : RoutineParts). BeforeLabels number place start title.version r h None 1)
          (sym is_begun) (routine_begun number place start title.version r.signature h sign next),
    )

-- Main

-- main under way
abbrev main_open : PlanWords → ProcedureWords → Beginning
main_open title h = Within (open_procedure title [] h) (faults.AwaitsLabel None)

-- The line of main may not be of the other version.
pub main_of_other : (o : OutlineParts) (h : ProcedureWords) (n : ℕ) (t : Bool)
    → t ≡ is_of_version o.version h.results → t ≡ false → BeginsMain o h n (Err (fault.P1 n))
main_of_other o h n t told fails = λ number title at is.
    inr (
      (P1, 1),
      needing_not (is_of_version title.version h.results) (P1, 1)
          (judged 1 (head_check [] h) (main_open title h))
          (of_title number o title [] [] h t told is ∙ fails),
      ap fault.P1 at,
    )

pub main_refused : (o : OutlineParts) (h : ProcedureWords) (n : ℕ) (t : Bool) (e : AsmFault)
    → t ≡ is_of_version o.version h.results → t ≡ true → IsRefusal (head_refusal o h) n e
    → BeginsMain o h n (Err e)
main_refused o h n t e told so refused = λ number title at is.
    let more = judged 1 (head_check [] h) (main_open title h) in
    let version = is_of_version title.version h.results in
    same_fault number (needing version (P1, 1) more) more e
    (needing_so version (P1, 1) more (of_title number o title [] [] h t told is ∙ so))
    (refused_by number 1 n (head_check [] h) (main_open title h) e at
    (subst (λ (c : Option FaultKind). IsRefusal c n e) (head_same number o title [] h is) refused))

-- Main has begun.
pub main_begun : (o new : OutlineParts) (h : ProcedureWords) (r : RoutineParts) (n : ℕ) (t : Bool)
    → t ≡ is_of_version o.version h.results → t ≡ true → HasBegun o h r new
    → BeginsMain o h n (Ok (in_procedure new r stage.AwaitsLabel))
main_begun o new h r n t told so has = λ number title at is.
    let next = main_open title h in (
      next,
      needing_so (is_of_version title.version h.results) (P1, 1) (judged 1 (head_check [] h) next)
          (of_title number o title [] [] h t told is ∙ so)
          ∙ passes 1 (head_check [] h) next (sym (head_same number o title [] h is) ∙ has.0),
      head_taken number 2 1 o new r title [] h has is refl,
    )

-- Other procedures

-- the procedure that ends after this block
abbrev closed : OpenProcedure → Option ExitSource → List Block → Block → ProcedureSource
closed u exit blocks b = record { head = u.head; exit = exit; blocks = blocks ++ b ∷ [] }

-- the next one under way
abbrev next_open : OpenProcedure → Option ExitSource → List Block → Block → ProcedureWords
    → Beginning
next_open u exit blocks b h =
    Within (open_procedure u.title (ended_with u exit blocks b) h) faults.AwaitsExit

-- what its first line gives, where that is right
abbrev next_judged : ℕ → OpenProcedure → Option ExitSource → List Block → Block → ProcedureWords
    → Result Beginning PlacedFault
next_judged place u exit blocks b h =
    judged place (head_check (ended_with u exit blocks b) h) (next_open u exit blocks b h)

-- the same where the last procedure may end
abbrev next_needing : ℕ → OpenProcedure → Option ExitSource → List Block → Block → ProcedureWords
    → Result Beginning PlacedFault
next_needing place u exit blocks b h =
    needing (has_code b) (at_label place b) (next_judged place u exit blocks b h)

code_told : (number : ℕ → ℕ) (place start version : ℕ) (r : RoutineParts) (h : ProcedureWords)
    (exit : Option ExitSource) (blocks : List Block) (b : Block)
    → AfterFrame number place start version r h exit blocks b
    → has_code b ≡ not (ends_with_label r)
code_told number place start version r h exit blocks b is =
    sym (last_has_code r blocks b is.routine.labels is.routine.size)

-- the plan with the procedure that ends, where the next one begins
ended_there : (number : ℕ → ℕ) (place : ℕ) (o new : OutlineParts) (r : RoutineParts)
    (u : OpenProcedure) (exit : Option ExitSource) (blocks : List Block) (b : Block)
    → new ≡ with_routine o r
    → IsUnderWay number place o r stage.InCode u (faults.InCode exit blocks b)
    → IsOutline number new u.title (ended_with u exit blocks b)
    (procedure_names (ended_with u exit blocks b))
ended_there number place o new r u exit blocks b same is =
    subst (λ (o : OutlineParts). IsOutline number o u.title (ended_with u exit blocks b) (procedure_names (ended_with u exit blocks b)))
    (sym same)
    (outline_ended number o r u.title u.ended (closed u exit blocks b) is.0
    (is.1.routine, is.1.names))

pub next_of_other : (o : OutlineParts) (r : RoutineParts) (h : ProcedureWords) (n : ℕ) (t : Bool)
    → t ≡ is_of_version o.version h.results → t ≡ false
    → NextProcedure o r h n (Err (fault.P1 n))
next_of_other o r h n t told fails = λ number place u exit blocks b at is.
    inr (
      (P1, place),
      needing_not (is_of_version u.title.version h.results) (P1, place)
          (next_needing place u exit blocks b h)
          (of_title number o u.title u.ended (names_begun u) h t told is.0 ∙ fails),
      ap fault.P1 at,
    )

of_version : (number : ℕ → ℕ) (place : ℕ) (o : OutlineParts) (h : ProcedureWords) (t : Bool)
    (u : OpenProcedure) (exit : Option ExitSource) (blocks : List Block) (b : Block)
    → t ≡ is_of_version o.version h.results → t ≡ true
    → IsOutline number o u.title u.ended (names_begun u)
    → in_code place u exit blocks b (Reads (ProcLine h)) ≡ next_needing place u exit blocks b h
of_version number place o h t u exit blocks b told so is =
    needing_so (is_of_version u.title.version h.results) (P1, place)
    (next_needing place u exit blocks b h)
    (of_title number o u.title u.ended (names_begun u) h t told is ∙ so)

-- A label without code before the next procedure is refused at its own line.
pub next_at_label : (o : OutlineParts) (r : RoutineParts) (h : ProcedureWords) (n : ℕ) (t : Bool)
    (e : AsmFault) → t ≡ is_of_version o.version h.results → t ≡ true → IsLabelAtEnd r e
    → NextProcedure o r h n (Err e)
next_at_label o r h n t e told so (inl memory) = λ number place u exit blocks b at is. inl memory
next_at_label o r h n t e told so (inr (ends, same)) = λ number place u exit blocks b at is.
    inr (
      at_label place b,
      of_version number place o h t u exit blocks b told so is.0
          ∙ needing_not (has_code b) (at_label place b) (next_judged place u exit blocks b h)
          (code_told number place (start_of u) u.title.version r u.head exit blocks b is.1 ∙ ap not ends),
      same ∙ ap fault.P4 is.1.last,
    )

may_end : (number : ℕ → ℕ) (place : ℕ) (o : OutlineParts) (r : RoutineParts) (h : ProcedureWords)
    (t : Bool) (u : OpenProcedure) (exit : Option ExitSource) (blocks : List Block) (b : Block)
    → t ≡ is_of_version o.version h.results → t ≡ true → ends_with_label r ≡ false
    → IsUnderWay number place o r stage.InCode u (faults.InCode exit blocks b)
    → in_code place u exit blocks b (Reads (ProcLine h)) ≡ next_judged place u exit blocks b h
may_end number place o r h t u exit blocks b told so ends is =
    of_version number place o h t u exit blocks b told so is.0
    ∙ needing_so (has_code b) (at_label place b) (next_judged place u exit blocks b h)
    (code_told number place (start_of u) u.title.version r u.head exit blocks b is.1 ∙ ap not ends)

pub next_refused : (o with_ended : OutlineParts) (r : RoutineParts) (h : ProcedureWords) (n : ℕ)
    (t : Bool) (e : AsmFault) → t ≡ is_of_version o.version h.results → t ≡ true
    → ends_with_label r ≡ false → with_ended ≡ with_routine o r
    → IsRefusal (head_refusal with_ended h) n e → NextProcedure o r h n (Err e)
next_refused o with_ended r h n t e told so ends same refused = λ number place u exit blocks b at is.
    let before = ended_with u exit blocks b in
    let outline = ended_there number place o with_ended r u exit blocks b same is in
    same_fault number (in_code place u exit blocks b (Reads (ProcLine h)))
    (next_judged place u exit blocks b h) e
    (may_end number place o r h t u exit blocks b told so ends is)
    (refused_by number place n (head_check before h) (next_open u exit blocks b h) e at
    (subst (λ (c : Option FaultKind). IsRefusal c n e)
    (head_same number with_ended u.title before h outline) refused))

-- The next procedure has begun.
pub next_begun : (o with_ended new : OutlineParts) (r after : RoutineParts) (h : ProcedureWords)
    (n : ℕ) (t : Bool) → t ≡ is_of_version o.version h.results → t ≡ true
    → ends_with_label r ≡ false → with_ended ≡ with_routine o r → HasBegun with_ended h after new
    → NextProcedure o r h n (Ok (in_procedure new after stage.AwaitsExit))
next_begun o with_ended new r after h n t told so ends same has = λ number place u exit blocks b at is.
    let before = ended_with u exit blocks b in
    let next = next_open u exit blocks b h in
    let outline = ended_there number place o with_ended r u exit blocks b same is in
    let lines = lines_more u.ended (closed u exit blocks b) in
    let here = is.1.next in
    let there : suc place ≡ (1 + length (flat_map procedure_lines before)) + 1 =
    omega (arith, lines, here) in (
      next,
      may_end number place o r h t u exit blocks b told so ends is
          ∙ passes place (head_check before h) next
          (sym (head_same number with_ended u.title before h outline) ∙ has.0),
      head_taken number (suc place) (1 + length (flat_map procedure_lines before)) with_ended new after
          u.title before h has outline there,
    )

-- Lines within a procedure

-- A line that leaves the procedure under way: the stage and what the code has of it.
pub stage_goes_on : (o : OutlineParts) (old new : RoutineParts) (s after : Stage) (pieces : ℕ)
    (line : Line) (n : ℕ) → pieces ≡ o.pieces → GivesStage s old pieces line n new (Ok after)
    → GivesWithin o old s line n (Ok (in_procedure o new after))
stage_goes_on o old new s after pieces line n count gives = λ number place u t at is.
    let next = gives number place u t (count ∙ is.0.pieces_are) at is.1 in
    (Within u next.0, next.1, (is.0, next.2))

pub stage_refused : (o : OutlineParts) (old new : RoutineParts) (s : Stage) (pieces : ℕ)
    (line : Line) (n : ℕ) (e : AsmFault) → pieces ≡ o.pieces
    → GivesStage s old pieces line n new (Err e) → GivesWithin o old s line n (Err e)
stage_refused o old new s pieces line n e count gives = λ number place u t at is.
    gives number place u t (count ∙ is.0.pieces_are) at is.1

-- Fronts

title_by : (title : PlanWords) (o : OutlineParts) (number : ℕ → ℕ) (place : ℕ) (b : Beginning)
    → title_check title ≡ None → o ≡ titled_outline title → IsFront number place AwaitsPlan b
    → IsNext number place (with_line place b (Reads (PlanLine title))) (Ok (AwaitsMain o))
title_by title o number place Blank passed same is = (
  Titled title,
  passes place (title_check title) (Titled title) passed,
  (
    subst (λ (o : OutlineParts). IsOutline number o title [] []) (sym same)
        (outline_titled number title),
    ap suc is,
  ),
)
title_by title o number place b passed same is = absurd is

-- The plan's line has been read.
pub title_taken : (f : Front) (l : LineForm) (words : PlanParts) (o : OutlineParts) (n : ℕ)
    → f ≡ AwaitsPlan → l ≡ form.Plan words → title_check (plan_words words) ≡ None
    → o ≡ titled_outline (plan_words words) → GivesFront f (line_words l) n (Ok (AwaitsMain o))
title_taken f l words o n due is_plan passed same = λ number place b at is.
    subst (λ (l : LineForm). IsNext number place (with_line place b (Reads (line_words l))) (Ok (AwaitsMain o)))
    (sym is_plan)
    (title_by (plan_words words) o number place b passed same
    (subst (λ (f : Front). IsFront number place f b) due is))

title_other_by : (l : LineForm) (n : ℕ) (number : ℕ → ℕ) (place : ℕ) (b : Beginning)
    → ((words : PlanParts) → l ≡ form.Plan words → ⊥) → n ≡ number place
    → IsFront number place AwaitsPlan b
    → IsFaultOf number (with_line place b (Reads (line_words l))) (fault.P1 n)
title_other_by (form.Plan words) n number place Blank other at is = absurd (other words refl)
title_other_by l n number place Blank other at is = inr ((P1, place), refl, ap fault.P1 at)
title_other_by l n number place b other at is = absurd is

-- Another line may not stand where the plan's is due.
pub title_other : (f : Front) (l : LineForm) (n : ℕ) → f ≡ AwaitsPlan
    → ((words : PlanParts) → l ≡ form.Plan words → ⊥)
    → GivesFront f (line_words l) n (Err (fault.P1 n))
title_other f l n due other = λ number place b at is.
    title_other_by l n number place b other at (subst (λ (f : Front). IsFront number place f b) due is)

main_due_by : (o : OutlineParts) (h : ProcedureWords) (n : ℕ) (result : Result Front AsmFault)
    (number : ℕ → ℕ) (place : ℕ) (b : Beginning) → BeginsMain o h n result → n ≡ number place
    → IsFront number place (AwaitsMain o) b
    → IsNext number place (with_line place b (Reads (ProcLine h))) result
main_due_by o h n result number place Blank begins at is = absurd is
main_due_by o h n result number place (Titled title) begins at is =
    subst (λ (p : ℕ). IsNext number p (with_line p (Titled title) (Reads (ProcLine h))) result) (sym is.1)
    (begins number title (at ∙ ap number is.1) is.0)
main_due_by o h n result number place (Within u t) begins at is = absurd is

-- The line of a procedure stands where main's is due.
pub main_due : (o : OutlineParts) (l : LineForm) (words : ProcedureParts) (n : ℕ)
    (result : Result Front AsmFault) → l ≡ form.Procedure words
    → BeginsMain o (procedure_words words) n result → GivesFront (AwaitsMain o) (line_words l) n result
main_due o l words n result is_procedure begins = λ number place b at is.
    subst (λ (l : LineForm). IsNext number place (with_line place b (Reads (line_words l))) result)
    (sym is_procedure)
    (main_due_by o (procedure_words words) n result number place b begins at is)

main_other_by : (o : OutlineParts) (l : LineForm) (n : ℕ) (number : ℕ → ℕ) (place : ℕ)
    (b : Beginning) → ((words : ProcedureParts) → l ≡ form.Procedure words → ⊥)
    → n ≡ number place → IsFront number place (AwaitsMain o) b
    → IsFaultOf number (with_line place b (Reads (line_words l))) (fault.P1 n)
main_other_by o (form.Procedure words) n number place (Titled title) other at is =
    absurd (other words refl)
main_other_by o l n number place (Titled title) other at is =
    inr ((P1, place), refl, ap fault.P1 at)
main_other_by o l n number place b other at is = absurd is

-- Another line may not stand where main's is due.
pub main_other : (f : Front) (o : OutlineParts) (l : LineForm) (n : ℕ) → f ≡ AwaitsMain o
    → ((words : ProcedureParts) → l ≡ form.Procedure words → ⊥)
    → GivesFront f (line_words l) n (Err (fault.P1 n))
main_other f o l n due other = λ number place b at is.
    main_other_by o l n number place b other at (subst (λ (f : Front). IsFront number place f b) due is)
