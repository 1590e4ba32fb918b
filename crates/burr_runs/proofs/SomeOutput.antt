-- For each input a text is written.
use Rattle.std.proofs.Common.{◌⊎◌, ℕ, List, [], refl, inl, inr, arith, codes, lit≤}
use Rattle.burr_assembly.specs.declared.fault.AssemblyFault.{AssemblyFault}
use Rattle.burr_assembly.specs.Rules.Text.{Assembly, IsText}
use Rattle.burr_assembly.specs.Rules.Faults.{FirstFault}
use Rattle.burr_assembly.proofs.Common.TextLaws.{fault_or_assembly}
use Rattle.burr_text.proofs.Common.Decisions.{Decided}
use Rattle.burr_runs.specs.declared.text_runs.Outcome.{Outcome}
use Rattle.burr_runs.specs.declared.text_runs.Outcome.TheVariants.{Refused}
use Rattle.burr_state.specs.Rules.Bench.{Setup, start}
use Rattle.burr_assembly.specs.Rules.Homes.{homes_of}
use Rattle.burr_state.specs.Laws.RunLaws.{IsUnderWay}
use Rattle.burr_sheet.specs.Rules.SheetText.{sheet}
use Rattle.burr_runs.specs.Rules.Input.{IsInput}
use Rattle.burr_runs.specs.Rules.Output.{IsSheet, IsTextOutput, IsOutput, outcome_of}
use Rattle.burr_runs.specs.Rules.Refusals.{assembly_refusal}
use Rattle.burr_assembly.specs.Rules.Homes.{names_of}
use Rattle.burr_state.specs.Rules.Bench.{bare, bare_program}
use Rattle.burr_runs.specs.Laws.OutputLaws.{SomeOutput}
use Rattle.burr_runs.proofs.WholeInput.{sheet_of_run}
use Rattle.burr_state.proofs.Common.SomeRun.{some_result}
use Rattle.burr_runs.proofs.Inputs.Deciding.{decide_input}

-- something is written, and it ends so
abbrev HasOutput : (List ℕ → Outcome → Type 0) → Type 0
HasOutput P = (output : List ℕ) × (outcome : Outcome) × P output outcome

start_under_way : (setup : Setup) (budget : ℕ) → IsUnderWay budget (start setup)
start_under_way setup budget = record { mode = inl refl; within = omega arith }

some_sheet : (text code : List ℕ) (a : Assembly) → IsText text a → HasOutput (IsSheet a code)
some_sheet text code a is =
    let setup : Setup = bare (homes_of a) code in
    let ran = some_result setup 1000000 (start setup) [] (lit≤ tt) (start_under_way setup 1000000) in
    (sheet (names_of a) ran.motions ran.steps ran.closing, outcome_of ran.closing, sheet_of_run a (bare_program code) [] _ ran.motions ran.steps ran.closing is.0 ran.run refl)

some_text_output : (text code : List ℕ) → HasOutput (IsTextOutput text code)
some_text_output text code = by_text (fault_or_assembly text)
  where
    by_text : ((a : Assembly) × IsText text a) ⊎ ((fault : AssemblyFault) × FirstFault text fault) → HasOutput (IsTextOutput text code)
    by_text (inl (a, is)) = let given = some_sheet text code a is in (given.0, given.1, inr (a, is, given.2))
    by_text (inr (fault, first)) = (assembly_refusal text fault, Refused, inl (fault, first, refl, refl))

pub some_output : SomeOutput
some_output input = by_input (decide_input input)
  where
    by_input : Decided ((text code : List ℕ) × IsInput input text code) → HasOutput (IsOutput input)
    by_input (inl (text, code, is)) = let given = some_text_output text code in (given.0, given.1, inr (text, code, is, given.2))
    by_input (inr none) = (codes "refused input\n", Refused, inl ((λ text code is. none (text, code, is)), refl, refl))
