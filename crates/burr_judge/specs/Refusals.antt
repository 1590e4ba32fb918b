-- The text that refuses an input: a line, and notes below it.
use Rattle.std.specs.Prelude.{ℕ, List, [], ◌++◌, Option, None, Some, String, codes, string_bytes}
use Rattle.std.specs.declared.alloc.Global.{Global}
use Rattle.burr_asm.specs.declared.fault.AsmFault.{AsmFault}
use Rattle.burr_asm.specs.declared.fault.AsmFault.TheVariants.{Memory}
use Rattle.burr_asm.specs.Rules.FaultNames.{fault_code, fault_line}
use Rattle.burr_runs.specs.Rules.Refusals.{place_line, clash_line, container_refusal}
use Rattle.burr_runs.specs.Views.NamedRefusals.{named_refusal}
use Rattle.burr_judge.specs.declared.refused.Refused.{Refused}
use Rattle.burr_judge.specs.declared.refused.Refused.TheVariants as refused

-- the line for a fault of a plan text; out of memory is no fault of a text
abbrev pub plan_text_refusal : AsmFault → List ℕ
plan_text_refusal Memory = []
plan_text_refusal fault = place_line (fault_code fault) (codes "line") (fault_line fault)

-- the line of a refusal; or what a run printed that does not reach its end
abbrev pub refusal_line : Refused → List ℕ
refusal_line (refused.Line subject line) = place_line subject.now (codes "line") line
refusal_line (refused.Overlap line earlier piece) = clash_line line earlier.items piece.items
refusal_line (refused.Container fault) = container_refusal fault
refusal_line (refused.Plan refusal) = named_refusal refusal
refusal_line (refused.Run sheet) = sheet.items

-- the line, and the notes
abbrev pub refusal_text : Refused → Option (String Global) → List ℕ
refusal_text refused None = refusal_line refused
refusal_text refused (Some notes) = refusal_line refused ++ string_bytes notes
