-- What the code reads of a text.
use Rattle.std.specs.Prelude.{ℕ, List, Result}
use Rattle.burr_container.specs.Rules.Plans.{Plan}
use Rattle.burr_plantext.specs.Rules.Texts.{lines_read, line_number}
use Rattle.burr_plantext.specs.Rules.Faults.{judgement}
use Rattle.burr_asm.specs.declared.fault.AsmFault.{AsmFault}
use Rattle.burr_asm.specs.Views.Fronts.{IsPlanOf}

-- the plan of the source that the text is, or its first fault
abbrev pub ReadsPlan : List ℕ → Result Plan AsmFault → Type 0
ReadsPlan text result = IsPlanOf (line_number text) (judgement (lines_read text)) result
