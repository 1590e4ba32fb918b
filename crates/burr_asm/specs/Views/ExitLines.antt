-- What a line of an exit frame makes of it.
use Rattle.std.specs.Prelude.{◌≡◌, ℕ, None, Result, MatchResult}
use Rattle.burr_plantext.specs.Rules.Lines.{Line, ProcedureWords}
use Rattle.burr_plantext.specs.Rules.Sources.{ExitSource}
use Rattle.burr_asm.specs.declared.fault.AsmFault.{AsmFault}
use Rattle.burr_asm.specs.declared.text.exit.Exit.{Exit}
use Rattle.burr_asm.specs.Views.Faults.{IsRefusal}
use Rattle.burr_asm.specs.Views.Exits.{IsExitFor, exit_check, with_exit_line}

-- A line more of an exit frame, or its refusal.
abbrev pub AddsExitLine : {A : Type 0} → Exit → Line → ℕ → Exit → Result A AsmFault → Type 0
AddsExitLine old line number new result =
    (version : ℕ) (h : ProcedureWords) (e : ExitSource) → IsExitFor old version h e
    → MatchResult result
    (λ done. (exit_check version h e line ≡ None)
    × IsExitFor new version h (with_exit_line e line))
    (IsRefusal (exit_check version h e line) number)
