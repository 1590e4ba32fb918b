-- What the code makes of a line of an exit frame is what the rules say.
use Rattle.std.proofs.Common.{◌≡◌, inr, ℕ, suc, ◌+◌, ◌≤◌, ◌==◌, Bool, true, false, true≢false, List, [], ◌∷◌, length, Option, Some, None, refl, sym, ap, subst, ◌∙◌, arith}
use Rattle.std.specs.Prelude.{◌&&◌, nat_lt, Result, Ok, Err, MatchResult, if◌then◌else◌}
use Rattle.std.proofs.lemmas.Bool.{and_parts, eqb-true}
use Rattle.std.proofs.lemmas.Option.{none-some}
use Rattle.burr_code.specs.declared.limits.TheConstants.{MOST_GUARDS}
use Rattle.burr_container.specs.Rules.Plans.{ExitFrame}
use Rattle.burr_plantext.specs.Rules.Written.{are_ends, is_form_over}
use Rattle.burr_plantext.specs.Rules.Lines.{Line, ProcedureWords, GripWords, PieceWords, ExitLine, ResultLine, GuardLine, AtLine}
use Rattle.burr_plantext.specs.Rules.Sources.{ExitSource, exit_lines}
use Rattle.burr_plantext.specs.Rules.Meaning.{result_count}
use Rattle.burr_plantext.specs.Rules.Checks.{FaultKind, P1, P3, P4, unless, is_empty, grip_check, exit_live}
use Rattle.burr_plantext.specs.Rules.Right.{exit_source}
use Rattle.burr_plantext.specs.Rules.Faults as rules
use Rattle.burr_plantext.specs.Rules.Faults.{OpenProcedure, Beginning, Within, PlacedFault, LineResult, judged, piece_count, end_within}
use Rattle.burr_asm.specs.declared.fault.AsmFault.{AsmFault}
use Rattle.burr_asm.specs.declared.fault.AsmFault.TheVariants as fault
use Rattle.burr_asm.specs.declared.text.exit.Exit.{Exit}
use Rattle.burr_asm.specs.declared.text.stage.Stage.TheVariants.{AwaitsExit, InExit, AwaitsLabel}
use Rattle.burr_asm.specs.declared.text.line.GripWords.{GripWords as GripParts}
use Rattle.burr_asm.specs.declared.text.line.LineForm.{LineForm}
use Rattle.burr_asm.specs.declared.text.line.LineForm.TheVariants as form
use Rattle.burr_asm.specs.Views.Faults.{IsRefusal}
use Rattle.burr_asm.specs.Views.Exits.{IsSignature, IsExitFor, exit_check, with_exit_line}
use Rattle.burr_asm.specs.Views.LineWords.{line_words}
use Rattle.burr_asm.specs.Views.Routines.{RoutineParts}
use Rattle.burr_asm.specs.Views.Beginnings.{BeforeLabels, lines_of}
use Rattle.burr_asm.specs.Views.Fronts.{start_of, within_one}
use Rattle.burr_asm.specs.Views.Steps.{GivesStage}
use Rattle.burr_asm.proofs.StagePlaces.{exit_length, one_longer}
use Rattle.burr_asm.proofs.StageLines.{grip_check_is, whole_is, refused, given, giving, judge, passes, before_more, before_labels}

-- a grip of an exit frame, which begins there
pub exit_given : (r : RoutineParts) (pieces : ℕ) (grip : GripWords) (n : ℕ)
    (result : Result Exit AsmFault)
    → MatchResult result (λ x. (grip_check pieces grip ≡ None)
    × ((version : ℕ) (h : ProcedureWords) → IsSignature r.signature version h
    → IsExitFor x version h (exit_source grip [] [] [])))
    (IsRefusal (grip_check pieces grip) n)
    → GivesStage AwaitsExit r pieces (ExitLine grip) n r (giving InExit result)
exit_given r pieces grip n result h number place u rules.AwaitsExit many line at =
    judge number place n u r (grip_check pieces grip) (grip_check (piece_count u) grip) InExit (rules.InExit (exit_source grip [] [] []))
    (λ x. (version : ℕ) (h : ProcedureWords) → IsSignature r.signature version h → IsExitFor x version h (exit_source grip [] [] []))
    result line (grip_check_is pieces u grip many) h
    (λ x passed is. (
      is u.title.version u.head at.routine.signature,
      before_more number place (start_of u) u.title.version r u.head 1 (1 + length (exit_lines (exit_source grip [] [] []))) (omega arith) at,
    ))
exit_given r pieces grip n result h number place u t many line at = absurd at

-- another line, where an exit frame is due
pub other_exits : (f : LineForm) (old new : RoutineParts) (pieces n : ℕ)
    → ((x : GripParts) → f ≡ form.Exit x → ⊥)
    → GivesStage AwaitsExit old pieces (line_words f) n new (Err (fault.P1 n))
other_exits f old new pieces n other number place u rules.AwaitsExit many is at =
    inr ((P1, place), by f other, ap fault.P1 is)
  where
    by : (f : LineForm) → ((x : GripParts) → f ≡ form.Exit x → ⊥) → within_one place u rules.AwaitsExit (line_words f) ≡ Err (P1, place)
    by (form.Exit x) h = absurd (h x refl)
    by f h = refl
other_exits f old new pieces n other number place u t many is at = absurd at

-- what comes of a line of an exit frame
abbrev after_exit_line : OpenProcedure → ExitSource → Line → Beginning
after_exit_line u e (AtLine piece) = rules.with_exit u (with_exit_line e (AtLine piece))
after_exit_line u e line = Within u (rules.InExit (with_exit_line e line))

judged_exit : (place : ℕ) (u : OpenProcedure) (e : ExitSource) (line : Line)
    → within_one place u (rules.InExit e) line
    ≡ judged place (exit_check u.title.version u.head e line) (after_exit_line u e line)
judged_exit place u e (AtLine piece) = refl
judged_exit place u e line = refl

-- a line of an exit frame that is refused
pub exit_refused : (x : Exit) (old new : RoutineParts) (pieces : ℕ) (line : Line) (n : ℕ)
    (e : AsmFault)
    → ((version : ℕ) (h : ProcedureWords) (s : ExitSource) → IsExitFor x version h s
    → IsRefusal (exit_check version h s line) n e)
    → GivesStage (InExit x) old pieces line n new (Err e)
exit_refused x old new pieces line n e adds number place u (rules.InExit s) many is at =
    refused number place n (exit_check u.title.version u.head s line) (within_one place u (rules.InExit s) line) (after_exit_line u s line) e is (judged_exit place u s line) (adds u.title.version u.head s at.0)
exit_refused x old new pieces line n e adds number place u t many is at = absurd at

exit_longer : (version : ℕ) (h : ProcedureWords) (e : ExitSource) (line : Line)
    → exit_check version h e line ≡ None
    → length (exit_lines (with_exit_line e line)) ≡ suc (length (exit_lines e))
exit_longer version h e (ResultLine ends) none =
    omega (arith, exit_length e, exit_length (with_exit_line e (ResultLine ends)), one_longer e.results ends)
exit_longer version h e (GuardLine form) none =
    omega (arith, exit_length e, exit_length (with_exit_line e (GuardLine form)), one_longer e.guards form)
exit_longer version h e (AtLine piece) none =
    omega (arith, exit_length e, exit_length (with_exit_line e (AtLine piece)), one_longer e.pieces piece)
exit_longer version h e line none = absurd (none-some P1 (sym none))

-- the exit frame goes on where it is not whole
goes_on : (u : OpenProcedure) (e : ExitSource) (line : Line)
    → (length (with_exit_line e line).pieces == piece_count u) ≡ false
    → after_exit_line u e line ≡ Within u (rules.InExit (with_exit_line e line))
goes_on u e (AtLine piece) part = grind (arith, part)
goes_on u e line part = refl

-- what a line more has to do with the exit frame
abbrev pub AddsToExit : Exit → Exit → Line → Type 0
AddsToExit old new line =
    (version : ℕ) (h : ProcedureWords) (e : ExitSource) → IsExitFor old version h e
    → (exit_check version h e line ≡ None) × IsExitFor new version h (with_exit_line e line)

-- a line of an exit frame, after which others are due
pub exit_goes_on : (x next : Exit) (r : RoutineParts) (pieces : ℕ) (line : Line) (n : ℕ)
    → AddsToExit x next line
    → (length next.frame.places == pieces) ≡ false
    → GivesStage (InExit x) r pieces line n r (Ok (InExit next))
exit_goes_on x next r pieces line n adds part number place u (rules.InExit e) many is at =
    let added = adds u.title.version u.head e at.0 in
    let grown = with_exit_line e line in
    let longer = exit_longer u.title.version u.head e line added.0 in
    let test = whole_is next.frame.places grown.pieces pieces u false (ap (λ (x : ExitFrame). x.places) added.1.frame) many part in (
      rules.InExit grown,
      judged_exit place u e line
          ∙ passes place (exit_check u.title.version u.head e line) (after_exit_line u e line) added.0
          ∙ ap given (goes_on u e line test),
      (
        added.1,
        before_more number place (start_of u) u.title.version r u.head (1 + length (exit_lines e)) (1 + length (exit_lines grown)) (omega (arith, longer)) at.1,
      ),
    )
exit_goes_on x next r pieces line n adds part number place u t many is at = absurd at

-- what a check lets pass holds
first_holds : (t : Bool) (kind : FaultKind) (more : Option FaultKind)
    → unless t kind more ≡ None → t ≡ true
first_holds true kind more e = refl
first_holds false kind more e = absurd (none-some kind (sym e))

none_whole : (pieces : List PieceWords) (k : ℕ) → is_empty pieces ≡ true → 2 ≤ k
    → (length pieces == k) ≡ true → ⊥
none_whole [] k empty some whole =
    omega (arith, eqb-true 0 k whole, some)
none_whole (p ∷ pieces) k empty some whole = true≢false (sym empty)

-- it ends where it is whole: the last line then is one of a piece
ends_whole : (u : OpenProcedure) (e : ExitSource) (line : Line) → 2 ≤ piece_count u
    → exit_check u.title.version u.head e line ≡ None
    → (length (with_exit_line e line).pieces == piece_count u) ≡ true
    → after_exit_line u e line ≡ Within u (rules.AwaitsLabel (Some (with_exit_line e line)))
ends_whole u e (AtLine piece) some none whole = grind (arith, whole)
ends_whole u e (ResultLine ends) some none whole =
    let holds = first_holds (is_empty e.guards && is_empty e.pieces
    && nat_lt (length e.results) (result_count u.head.results)) P1 (unless (are_ends ends.low ends.high) P3 None) none in
    let parts = and_parts (is_empty e.guards && is_empty e.pieces) (nat_lt (length e.results) (result_count u.head.results)) holds in
    absurd (none_whole e.pieces (piece_count u) (and_parts (is_empty e.guards) (is_empty e.pieces) parts.0).1 some whole)
ends_whole u e (GuardLine form) some none whole =
    let holds = first_holds ((u.title.version == 2) && is_empty e.pieces
    && (length e.results == result_count u.head.results)) P1 (unless (is_form_over (exit_live u.head) form) P3
    (unless (nat_lt (length e.guards) MOST_GUARDS) P4 None)) none in
    let parts = and_parts ((u.title.version == 2) && is_empty e.pieces) (length e.results == result_count u.head.results) holds in
    absurd (none_whole e.pieces (piece_count u) (and_parts (u.title.version == 2) (is_empty e.pieces) parts.0).1 some whole)
ends_whole u e line some none whole = absurd (none-some P1 (sym none))

-- the last line of an exit frame
pub exit_ends : (x next : Exit) (old new : RoutineParts) (pieces : ℕ) (line : Line) (n : ℕ)
    → 2 ≤ pieces → AddsToExit x next line
    → (length next.frame.places == pieces) ≡ true
    → new ≡ record old { exit = Some next.frame }
    → GivesStage (InExit x) old pieces line n new (Ok AwaitsLabel)
exit_ends x next old new pieces line n some adds all same number place u (rules.InExit e) many is at =
    let added = adds u.title.version u.head e at.0 in
    let grown = with_exit_line e line in
    let longer = exit_longer u.title.version u.head e line added.0 in
    let test = whole_is next.frame.places grown.pieces pieces u true (ap (λ (x : ExitFrame). x.places) added.1.frame) many all in
    let two : 2 ≤ piece_count u = omega (arith, some, many) in (
      rules.AwaitsLabel (Some grown),
      judged_exit place u e line
          ∙ passes place (exit_check u.title.version u.head e line) (after_exit_line u e line) added.0
          ∙ ap given (ends_whole u e line two added.0 test),
      subst (λ (r : RoutineParts). BeforeLabels number (suc place) (start_of u) u.title.version r u.head (Some grown) (length (lines_of u.head (Some grown) []))) (sym same)
          (before_labels number place (start_of u) u.title.version old u.head grown next.frame (1 + length (exit_lines e)) added.1.frame (omega (arith, longer)) at.1),
    )
exit_ends x next old new pieces line n some adds all same number place u t many is at = absurd at
