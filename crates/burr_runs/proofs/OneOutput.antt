-- One thing is written for an input.
use Rattle.std.proofs.Common.{◌≡◌, ℕ, List, [], sym, ap, subst, ◌∙◌, inl, inr}
use Rattle.burr_voxels.specs.declared.cell.Cell.{Cell}
use Rattle.burr_assembly.specs.Rules.Text.{Assembly}
use Rattle.burr_assembly.specs.Views.Drawings.{AreDistinct}
use Rattle.burr_assembly.proofs.Common.TextLaws.{one_assembly, no_fault_of_assembly, one_fault}
use Rattle.burr_runs.specs.declared.text_runs.Outcome.{Outcome}
use Rattle.burr_state.specs.Rules.Bench.{start}
use Rattle.burr_state.specs.Rules.Run.{Run}
use Rattle.burr_sheet.specs.Rules.SheetText.{sheet}
use Rattle.burr_runs.specs.Rules.Output.{IsSheet, IsTextOutput, outcome_of}
use Rattle.burr_runs.specs.Rules.Refusals.{assembly_refusal}
use Rattle.burr_assembly.specs.Rules.Homes.{names_of}
use Rattle.burr_state.specs.Rules.Bench.{bare}
use Rattle.burr_runs.specs.Laws.OutputLaws.{OneOutput}
use Rattle.burr_state.proofs.Common.OneRun.{one_result}
use Rattle.burr_runs.proofs.Inputs.OneInput.{one_input}
use Rattle.burr_assembly.proofs.Common.OneHomes.{one_homes}

-- two outputs are the same, and so are their outcomes
abbrev Same : List ℕ → List ℕ → Outcome → Outcome → Type 0
Same output other outcome ending = (output ≡ other) × (outcome ≡ ending)

-- code on an assembly has one sheet
one_sheet : (a : Assembly) (code output other : List ℕ) (outcome ending : Outcome) → AreDistinct a.shapes → IsSheet a code output outcome → IsSheet a code other ending → Same output other outcome ending
one_sheet a code output other outcome ending distinct s t =
    let homes : t.homes ≡ s.homes = one_homes a a.pieces t.homes s.homes distinct t.cells s.cells in
    let run = subst (λ (h : List (List Cell)). Run (bare h code) 1000000 (start (bare h code)) [] t.motions t.steps t.closing) homes t.run in
    let same = one_result (bare s.homes code) 1000000 (start (bare s.homes code)) [] s.motions t.motions s.steps t.steps s.closing t.closing s.run run in
    (s.text ∙ (λ i. sheet (names_of a) (same.0 i) (same.1 i) (same.2 i)) ∙ sym t.text, s.closes ∙ ap outcome_of same.2 ∙ sym t.closes)

-- and a text with code after it one output
one_text_output : (text code output other : List ℕ) (outcome ending : Outcome) → IsTextOutput text code output outcome → IsTextOutput text code other ending → Same output other outcome ending
one_text_output text code output other outcome ending (inl p) (inl q) = (p.2 ∙ ap (assembly_refusal text) (one_fault text p.0 q.0 p.1 q.1) ∙ sym q.2, p.3 ∙ sym q.3)
one_text_output text code output other outcome ending (inl p) (inr q) = absurd (no_fault_of_assembly text q.0 p.0 q.1 p.1)
one_text_output text code output other outcome ending (inr p) (inl q) = absurd (no_fault_of_assembly text p.0 q.0 p.1 q.1)
one_text_output text code output other outcome ending (inr p) (inr q) =
    one_sheet p.0 code output other outcome ending p.1.0.shape_names p.2 (subst (λ (a : Assembly). IsSheet a code other ending) (one_assembly text q.0 p.0 q.1 p.1) q.2)

pub one_output : OneOutput
one_output input output other outcome ending (inl p) (inl q) = (p.1 ∙ sym q.1, p.2 ∙ sym q.2)
one_output input output other outcome ending (inl p) (inr q) = absurd (p.0 q.0 q.1 q.2)
one_output input output other outcome ending (inr p) (inl q) = absurd (q.0 p.0 p.1 p.2)
one_output input output other outcome ending (inr p) (inr q) =
    let same = one_input input q.0 p.0 q.1 p.1 q.2 p.2 in
    let also = subst (λ (code : List ℕ). IsTextOutput p.0 code other ending) same.1 (subst (λ (text : List ℕ). IsTextOutput text q.1 other ending) same.0 q.3) in
    one_text_output p.0 p.1 output other outcome ending p.3 also
