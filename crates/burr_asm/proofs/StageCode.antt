-- What the code makes of a line after a frame, or of the first label, is what the rules say.
use Rattle.std.proofs.Common.{◌≡◌, inr, ℕ, suc, Bool, true, false, true≢false, List, [], ◌∷◌, ◌++◌, Option, None, refl, sym, ap, subst, ◌∙◌}
use Rattle.std.specs.Prelude.{nat_le, Result, Ok, Err, MatchResult}
use Rattle.std.specs.Borrow.{Bor}
use Rattle.burr_code.specs.declared.limits.TheConstants.{MOST_CODE}
use Rattle.burr_plantext.specs.Rules.Statements.{Statement}
use Rattle.burr_plantext.specs.Rules.Lines.{Line, LabelLine, CodeLine}
use Rattle.burr_plantext.specs.Rules.Sources.{ExitSource, Block}
use Rattle.burr_plantext.specs.Rules.Meaning.{code_size, block_code}
use Rattle.burr_plantext.specs.Rules.Checks.{FaultKind, P1, P3, P4, P5, unless, is_in_range, label_check, statement_check}
use Rattle.burr_plantext.specs.Rules.Faults as rules
use Rattle.burr_plantext.specs.Rules.Faults.{OpenProcedure, Beginning, Within, PlacedFault, LineResult, judged, piece_count, end_within}
use Rattle.burr_asm.specs.declared.fault.AsmFault.{AsmFault}
use Rattle.burr_asm.specs.declared.fault.AsmFault.TheVariants as fault
use Rattle.burr_asm.specs.declared.text.stage.Stage.TheVariants.{AwaitsLabel, AwaitsFrame, InCode}
use Rattle.burr_asm.specs.declared.text.code.CodeLine.{CodeLine as CodeWords}
use Rattle.burr_asm.specs.declared.text.line.LineForm.{LineForm}
use Rattle.burr_asm.specs.declared.text.line.LineForm.TheVariants as form
use Rattle.burr_asm.specs.Views.CodeParts.{code_refusal, with_statement}
use Rattle.burr_asm.specs.Views.Faults.{IsRefusal}
use Rattle.burr_asm.specs.Views.LineWords.{line_words}
use Rattle.burr_asm.specs.Views.Routines.{RoutineParts, label_refusal, with_label}
use Rattle.burr_asm.specs.Views.Beginnings.{UnderLabel, AfterFrame}
use Rattle.burr_asm.specs.Views.Fronts.{start_of, within_one}
use Rattle.burr_asm.specs.Views.Steps.{GivesInAny}
use Rattle.burr_asm.proofs.StagePlaces.{with_code}
use Rattle.burr_asm.proofs.StageLabels.{size_with, first_refusal, later_refusal, passed_label}
use Rattle.burr_asm.proofs.StageLines.{giving, judge, under_label, after_code}

-- After a frame

-- what the code tests of a line of code is what the rules test
code_check : (old : RoutineParts) (blocks : List Block) (b : Block) (w : Statement)
    → old.code.size ≡ code_size (block_code (blocks ++ b ∷ []))
    → code_refusal old.code w ≡ statement_check blocks b.code w
code_check old blocks b w e =
    let sum = size_with blocks b w old.code.size e in
    λ j. unless (is_in_range w) P3 (unless (nat_le (sum j) MOST_CODE) P4 None)

-- a line of code
pub code_given : {A : Type 0} (old new : RoutineParts) (w : Statement) (n : ℕ)
    (result : Result A AsmFault)
    → MatchResult result (λ done. (code_refusal old.code w ≡ None)
    × (new ≡ record old { code = with_statement old.code n w })) (IsRefusal (code_refusal old.code w) n)
    → GivesInAny InCode old (CodeLine w) n new (giving (λ x. InCode) result)
code_given old new w n result h number place u (rules.InCode exit blocks b) line at =
    judge number place n u new (code_refusal old.code w) (statement_check blocks b.code w) (λ x. InCode) (rules.InCode exit blocks (with_code b w))
    (λ x. new ≡ record old { code = with_statement old.code n w }) result line (code_check old blocks b w at.routine.size) h
    (λ x passed is. subst (λ (r : RoutineParts). AfterFrame number (suc place) (start_of u) u.title.version r u.head exit blocks (with_code b w)) (sym is)
    (after_code number place (start_of u) u.title.version old u.head exit blocks b n w at line))
code_given old new w n result h number place u t line at = absurd at

-- what the code says of a label
abbrev pub IsLabelled : {A : Type 0} → RoutineParts → RoutineParts → List ℕ → ℕ → Result A AsmFault → Type 0
IsLabelled old new name n result =
    MatchResult result (λ done. (label_refusal old name ≡ None) × (new ≡ with_label old name n)) (IsRefusal (label_refusal old name) n)

-- a label
pub label_given : {A : Type 0} (old new : RoutineParts) (name : List ℕ) (n : ℕ) (result : Result A AsmFault)
    → IsLabelled old new name n result
    → GivesInAny InCode old (LabelLine name) n new (giving (λ x. AwaitsFrame) result)
label_given old new name n result h number place u (rules.InCode exit blocks b) line at =
    let before = blocks ++ b ∷ [] in
    judge number place n u new (label_refusal old name) (label_check before name) (λ x. AwaitsFrame) (rules.AwaitsFrame exit before name) (λ x. new ≡ with_label old name n) result line
    (later_refusal old blocks b name at.names at.routine.labels at.routine.size at.full) h
    (λ x passed is. subst (λ (r : RoutineParts). UnderLabel number (suc place) (start_of u) u.title.version r u.head exit before name 1) (sym is)
    (under_label number place (start_of u) u.title.version old u.head exit before name n at.routine (passed_label before name passed) at.names line at.next))
label_given old new name n result h number place u t line at = absurd at

-- another line after a frame
pub other_follows : (f : LineForm) (old new : RoutineParts) (n : ℕ)
    → ((x : CodeWords) → f ≡ form.Code x → ⊥) → ((x : Bor (List ℕ)) → f ≡ form.Label x → ⊥)
    → GivesInAny InCode old (line_words f) n new (Err (fault.P1 n))
other_follows f old new n no_code no_label number place u (rules.InCode exit blocks b) is at =
    inr ((P1, place), by f no_code no_label, ap fault.P1 is)
  where
    by : (f : LineForm) → ((x : CodeWords) → f ≡ form.Code x → ⊥) → ((x : Bor (List ℕ)) → f ≡ form.Label x → ⊥)
        → within_one place u (rules.InCode exit blocks b) (line_words f) ≡ Err (P1, place)
    by (form.Code x) h k = absurd (h x refl)
    by (form.Label x) h k = absurd (k x refl)
    by f h k = refl
other_follows f old new n no_code no_label number place u t is at = absurd at

-- The first label

pub first_given : {A : Type 0} (old new : RoutineParts) (name : List ℕ) (n : ℕ) (result : Result A AsmFault)
    → IsLabelled old new name n result
    → GivesInAny AwaitsLabel old (LabelLine name) n new (giving (λ x. AwaitsFrame) result)
first_given old new name n result h number place u (rules.AwaitsLabel exit) line at =
    judge number place n u new (label_refusal old name) (label_check [] name) (λ x. AwaitsFrame) (rules.AwaitsFrame exit [] name) (λ x. new ≡ with_label old name n) result line
    (first_refusal old name at.names at.routine.labels) h
    (λ x passed is. subst (λ (r : RoutineParts). UnderLabel number (suc place) (start_of u) u.title.version r u.head exit [] name 1) (sym is)
    (under_label number place (start_of u) u.title.version old u.head exit [] name n at.routine refl at.names line at.next))
first_given old new name n result h number place u t line at = absurd at

-- another line, where the first label is due
pub other_first : (f : LineForm) (old new : RoutineParts) (n : ℕ)
    → ((x : Bor (List ℕ)) → f ≡ form.Label x → ⊥)
    → GivesInAny AwaitsLabel old (line_words f) n new (Err (fault.P5 n))
other_first f old new n other number place u (rules.AwaitsLabel exit) is at =
    inr ((P5, place), by f other, ap fault.P5 is)
  where
    by : (f : LineForm) → ((x : Bor (List ℕ)) → f ≡ form.Label x → ⊥) → within_one place u (rules.AwaitsLabel exit) (line_words f) ≡ Err (P5, place)
    by (form.Label x) h = absurd (h x refl)
    by f h = refl
other_first f old new n other number place u t is at = absurd at
