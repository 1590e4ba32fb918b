-- Exit frames as far as the code has read them, and the words that they stand for.
use Rattle.std.specs.Prelude.{◌≡◌, ◌≤◌, ◌<◌, ℕ, [], ◌∷◌, ◌++◌, length, Option, Some}
use Rattle.burr_plantext.specs.Rules.Written.{natural_in}
use Rattle.burr_plantext.specs.Rules.Lines.{Line, ResultLine, GuardLine, AtLine, ProcedureWords}
use Rattle.burr_plantext.specs.Rules.Sources.{ExitSource}
use Rattle.burr_plantext.specs.Rules.Meaning.{exit_in, result_count}
use Rattle.burr_plantext.specs.Rules.Checks.{FaultKind, P1, result_check, exit_guard_check, exit_piece_check}
use Rattle.burr_asm.specs.declared.text.signature.Signature.{Signature}
use Rattle.burr_asm.specs.declared.text.exit.Exit.{Exit}

-- what the procedure of these words takes and gives, in a plan of this version
pub record IsSignature (s : Signature) (version : ℕ) (h : ProcedureWords) : Type 0 where
  pub version_is : s.version ≡ version
  pub parameters : s.parameters ≡ natural_in h.parameters
  pub results : s.results ≡ result_count h.results

-- The exit frame of that procedure is what these words write: its results first.
pub record IsExitFor (x : Exit) (version : ℕ) (h : ProcedureWords) (e : ExitSource) : Type 0 where
  pub signature : IsSignature x.signature version h
  pub frame : x.frame ≡ exit_in e
  pub few : length e.results ≤ result_count h.results
  pub order : length e.results < result_count h.results → (e.guards ≡ []) × (e.pieces ≡ [])

-- what is wrong with one line more
abbrev pub exit_check : ℕ → ProcedureWords → ExitSource → Line → Option FaultKind
exit_check version h e (ResultLine ends) = result_check h e ends
exit_check version h e (GuardLine form) = exit_guard_check version h e form
exit_check version h e (AtLine piece) = exit_piece_check h e piece
exit_check version h e line = Some P1

-- the exit frame with that line
abbrev pub with_exit_line : ExitSource → Line → ExitSource
with_exit_line e (ResultLine ends) = record e { results = e.results ++ ends ∷ [] }
with_exit_line e (GuardLine form) = record e { guards = e.guards ++ form ∷ [] }
with_exit_line e (AtLine piece) = record e { pieces = e.pieces ++ piece ∷ [] }
with_exit_line e line = e
