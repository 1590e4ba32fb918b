-- The fault of a line that is of no form, or isn't ended, and of a line where another one is due.
use Rattle.std.proofs.Common.{◌≡◌, ℕ, Bool, true, false, not, Ok, Err, List, refl, sym, ap, ◌∙◌, arith}
use Rattle.std.specs.Prelude.{codes, if◌then◌else◌}
use Rattle.std.specs.Str.{bytes_eq}
use Rattle.std.proofs.lemmas.Bool.{false≢true}
use Rattle.burr_plantext.specs.Rules.Texts.{Unread, Broken, first_word, is_skipped, unended_line}
use Rattle.burr_plantext.specs.Rules.Checks.{FaultKind, P1, P5}
use Rattle.burr_plantext.specs.Rules.Faults as faults
use Rattle.burr_plantext.specs.Rules.Faults.{Beginning, Blank, Titled, Within, OpenProcedure, LineResult, within, with_line}
use Rattle.burr_asm.specs.declared.fault.AsmFault.TheVariants as fault
use Rattle.burr_asm.specs.declared.text.stage.Stage.{Stage}
use Rattle.burr_asm.specs.declared.text.stage.Stage.TheVariants as stage
use Rattle.burr_asm.specs.declared.text.front.Front.{Front}
use Rattle.burr_asm.specs.declared.text.front.Front.TheVariants.{AwaitsPlan, AwaitsMain, InProcedure}
use Rattle.burr_asm.specs.Rules.Faults.{fault_at}
use Rattle.burr_asm.specs.Views.Routines.{RoutineParts}
use Rattle.burr_asm.specs.Views.Beginnings.{IsStage}
use Rattle.burr_asm.specs.Views.Fronts.{IsFront, start_of}
use Rattle.burr_asm.specs.Views.Steps.{misses_part}
use Rattle.burr_asm.specs.Views.FrontSteps.{misses, GivesFault, GivesNext}

-- Lines of no form

-- a part is missing, or the line may not stand there
abbrev pub missing : Bool → FaultKind
missing m = if m then P5 else P1

placed : (place : ℕ) (given kind : FaultKind) → given ≡ kind
    → ◌≡◌ {A = LineResult} (Err (given, place)) (Err (kind, place))
placed place given kind e = ap (λ (k : FaultKind). Err (k, place)) e

unread_within : (number : ℕ → ℕ) (place : ℕ) (r : RoutineParts) (s : Stage) (u : OpenProcedure)
    (t : faults.Stage) (word : List ℕ)
    → IsStage number place (start_of u) u.title.version r u.head s t
    → within place u t (Unread word) ≡ Err (missing (misses_part s word), place)
unread_within number place r stage.AwaitsExit u faults.AwaitsExit word is = refl
unread_within number place r (stage.InExit x) u (faults.InExit e) word is = refl
unread_within number place r stage.AwaitsLabel u (faults.AwaitsLabel exit) word is = grind arith
unread_within number place r stage.AwaitsFrame u (faults.AwaitsFrame exit blocks label) word is = grind arith
unread_within number place r (stage.InFrame p) u (faults.InFrame exit blocks label c) word is = refl
unread_within number place r (stage.AwaitsPieces p) u (faults.InPieces exit blocks label f) word is = refl
unread_within number place r stage.InCode u (faults.InCode exit blocks b) word is = refl
unread_within number place r s u t word is = absurd is

unread_given : (number : ℕ → ℕ) (place : ℕ) (f : Front) (b : Beginning) (word : List ℕ)
    → IsFront number place f b
    → with_line place b (Unread word) ≡ Err (missing (misses f word), place)
unread_given number place AwaitsPlan Blank word is = refl
unread_given number place (AwaitsMain o) (Titled title) word is = refl
unread_given number place (InProcedure w) (Within u t) word is =
    unread_within number place w.routine w.stage u t word is.1
unread_given number place f b word is = absurd is

-- What is answered where a line is of no form.
pub unread_fault : (f : Front) (word : List ℕ) (n : ℕ) (m : Bool) → misses f word ≡ m
    → GivesFault f (Unread word) n (fault_at (missing m) n)
unread_fault f word n m e = λ number place b at is. (
  (missing m, place),
  unread_given number place f b word is
      ∙ placed place (missing (misses f word)) (missing m) (ap missing e),
  ap (fault_at (missing m)) at,
)

-- A comment that isn't ended

broken_within : (place : ℕ) (u : OpenProcedure) (t : faults.Stage)
    → within place u t Broken ≡ Err (P1, place)
broken_within place u faults.AwaitsExit = refl
broken_within place u _ = refl

broken_given : (place : ℕ) (b : Beginning) → with_line place b Broken ≡ Err (P1, place)
broken_given place Blank = refl
broken_given place (Titled title) = refl
broken_given place (Within u t) = broken_within place u t

-- A comment at the end of the text that isn't ended.
pub unended_skipped : (f : Front) (bytes : List ℕ) (n : ℕ) → is_skipped bytes ≡ true
    → GivesFault f (unended_line bytes) n (fault.P1 n)
unended_skipped f bytes n so = λ number place b at is. (
  (P1, place),
  ap (λ (t : Bool). with_line place b (if t then Broken else Unread (first_word bytes))) so
      ∙ broken_given place b,
  ap fault.P1 at,
)

-- Lines that are ended

-- A line that says nothing changes nothing.
pub next_skipped : (f : Front) (bytes : List ℕ) (n : ℕ) → is_skipped bytes ≡ true
    → GivesNext f bytes n (Ok f)
next_skipped f bytes n so =
    (λ same. refl, λ fails. absurd (false≢true (sym fails ∙ so)))
