-- What the code makes of the end of the text is what the rules say.
use Rattle.std.proofs.Common.{◌≡◌, ◌⊎◌, inl, inr, ℕ, refl, ap}
use Rattle.std.specs.Prelude.{Err}
use Rattle.burr_plantext.specs.Rules.Checks.{FaultKind, P1, P5}
use Rattle.burr_plantext.specs.Rules.Faults as rules
use Rattle.burr_plantext.specs.Rules.Faults.{OpenProcedure, PlacedFault, end_within}
use Rattle.burr_asm.specs.declared.fault.AsmFault.TheVariants as fault
use Rattle.burr_asm.specs.declared.text.stage.Stage.{Stage}
use Rattle.burr_asm.specs.declared.text.stage.Stage.TheVariants.{AwaitsExit, InExit, AwaitsLabel, AwaitsFrame, InFrame, AwaitsPieces, InCode}
use Rattle.burr_asm.specs.Rules.Faults.{fault_at}
use Rattle.burr_asm.specs.Views.Routines.{RoutineParts}
use Rattle.burr_asm.specs.Views.Steps.{IsStageOf}

-- the text ends too early, with a fault of this kind
abbrev pub EndsEarly : FaultKind → ℕ → Stage → Type 0
EndsEarly kind n stage =
    (number : ℕ → ℕ) (place : ℕ) (u : OpenProcedure) (r : RoutineParts) (t : rules.Stage)
    → n ≡ number place → IsStageOf number place u r stage t
    → (at : PlacedFault) × (end_within place u t ≡ Err at)
    × (fault_at kind n ≡ fault_at at.0 (number at.1))

-- the text ends in a part that is not whole
pub ends_in_part : (stage : Stage) (n : ℕ) → (stage ≡ InCode → ⊥) → (stage ≡ AwaitsLabel → ⊥)
    → (stage ≡ AwaitsFrame → ⊥) → EndsEarly P1 n stage
ends_in_part AwaitsExit n c l f number place u r rules.AwaitsExit line is = ((P1, place), refl, ap fault.P1 line)
ends_in_part (InExit x) n c l f number place u r (rules.InExit e) line is = ((P1, place), refl, ap fault.P1 line)
ends_in_part (InFrame parts) n c l f number place u r (rules.InFrame exit blocks label d) line is = ((P1, place), refl, ap fault.P1 line)
ends_in_part (AwaitsPieces frame) n c l f number place u r (rules.InPieces exit blocks label source) line is = ((P1, place), refl, ap fault.P1 line)
ends_in_part InCode n c l f number place u r t line is = absurd (c refl)
ends_in_part AwaitsLabel n c l f number place u r t line is = absurd (l refl)
ends_in_part AwaitsFrame n c l f number place u r t line is = absurd (f refl)
ends_in_part stage n c l f number place u r t line is = absurd is

-- the text ends before a part
pub ends_before_part : (stage : Stage) (n : ℕ) → (stage ≡ AwaitsLabel) ⊎ (stage ≡ AwaitsFrame)
    → EndsEarly P5 n stage
ends_before_part AwaitsLabel n due number place u r (rules.AwaitsLabel exit) line is = ((P5, place), refl, ap fault.P5 line)
ends_before_part AwaitsFrame n due number place u r (rules.AwaitsFrame exit blocks label) line is = ((P5, place), refl, ap fault.P5 line)
ends_before_part AwaitsLabel n due number place u r t line is = absurd is
ends_before_part AwaitsFrame n due number place u r t line is = absurd is
ends_before_part stage n (inl e) number place u r t line is = absurd (cc)
ends_before_part stage n (inr e) number place u r t line is = absurd (cc)
