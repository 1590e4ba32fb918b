-- What is written for an input, and how it ends.
use Rattle.std.specs.Prelude.{◌≡◌, ℕ, ℤ, List, [], codes, ◌⊎◌}
use Rattle.burr_voxels.specs.declared.cell.Cell.{Cell}
use Rattle.burr_assembly.specs.declared.fault.AssemblyFault.{AssemblyFault}
use Rattle.burr_assembly.specs.Rules.Text.{Assembly, IsText}
use Rattle.burr_assembly.specs.Rules.Faults.{FirstFault}
use Rattle.burr_assembly.specs.Rules.Homes.{names_of, HaveCells}
use Rattle.burr_state.specs.declared.effect.Motion.{Motion}
use Rattle.burr_state.specs.declared.effect.Closing.{Closing}
use Rattle.burr_state.specs.declared.effect.Closing.TheVariants as closings
use Rattle.burr_state.specs.Rules.Bench.{Program, bare_program, running, start}
use Rattle.burr_state.specs.Rules.Run.{Run}
use Rattle.burr_sheet.specs.Rules.SheetText.{sheet}
use Rattle.burr_runs.specs.declared.text_runs.Outcome.{Outcome}
use Rattle.burr_runs.specs.declared.text_runs.Outcome.TheVariants as outcomes
use Rattle.burr_runs.specs.Rules.Input.{IsInput}
use Rattle.burr_runs.specs.Rules.Refusals.{assembly_refusal}

-- the outcome of a run that closed so
abbrev pub outcome_of : Closing → Outcome
outcome_of closings.Apart = outcomes.Apart
outcome_of (closings.Waiting low high) = outcomes.Waiting
outcome_of (closings.Trapped trap procedure pc) = outcomes.Trapped
outcome_of closings.Stopped = outcomes.Stopped

-- the sheet of the run of this program on this assembly, with these answers, and how it ends
pub record IsSheetOf (a : Assembly) (program : Program) (answers : List ℤ) (output : List ℕ)
    (outcome : Outcome) : Type 0 where
  pub homes : List (List Cell)
  pub cells : HaveCells a a.pieces homes
  pub motions : List Motion
  pub steps : ℕ
  pub closing : Closing
  pub run : Run (running homes program) program.budget (start (running homes program)) answers
      motions steps closing
  pub text : output ≡ sheet (names_of a) motions steps closing
  pub closes : outcome ≡ outcome_of closing

-- that of bare code: without answers, and with a budget of 1,000,000 steps
abbrev pub IsSheet : Assembly → List ℕ → List ℕ → Outcome → Type 0
IsSheet a code output outcome = IsSheetOf a (bare_program code) [] output outcome

-- What is written for an assembly's text with code after it, and how it ends: the line of the
-- text's first fault, or the sheet of the run on its assembly.
abbrev pub IsTextOutput : List ℕ → List ℕ → List ℕ → Outcome → Type 0
IsTextOutput text code output outcome =
    ((fault : AssemblyFault) × FirstFault text fault
    × (output ≡ assembly_refusal text fault) × (outcome ≡ outcomes.Refused))
    ⊎ ((a : Assembly) × IsText text a × IsSheet a code output outcome)

-- What is written for an input, and how it ends: `refused input` where it is no text with code
-- after it.
abbrev pub IsOutput : List ℕ → List ℕ → Outcome → Type 0
IsOutput input output outcome =
    (((text code : List ℕ) → ¬ IsInput input text code)
    × (output ≡ codes "refused input\n") × (outcome ≡ outcomes.Refused))
    ⊎ ((text : List ℕ) × (code : List ℕ) × IsInput input text code
    × IsTextOutput text code output outcome)
