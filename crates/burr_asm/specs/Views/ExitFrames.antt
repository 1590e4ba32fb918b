-- What a guard and a piece make of an exit frame.
use Rattle.std.specs.Prelude.{◌≡◌, ℕ, List, [], ◌∷◌, ◌++◌, Bool, None, Result, MatchResult}
use Rattle.burr_code.specs.declared.limits.TheConstants.{MOST_GUARDS}
use Rattle.burr_container.specs.Rules.Plans.{ExitFrame}
use Rattle.burr_plantext.specs.Rules.Written.{form_in}
use Rattle.burr_plantext.specs.Rules.Lines.{PieceWords}
use Rattle.burr_plantext.specs.Rules.Meaning.{places_in}
use Rattle.burr_plantext.specs.Rules.Checks.{piece_check}
use Rattle.burr_asm.specs.declared.fault.AsmFault.{AsmFault}
use Rattle.burr_asm.specs.Views.Faults.{IsRefusal}
use Rattle.burr_asm.specs.Views.Frames.{form_check}

-- the exit frame with one guard more
abbrev pub with_guard : ExitFrame → List ℕ → ExitFrame
with_guard f word = record f { guards = f.guards ++ form_in word ∷ [] }

-- the exit frame with these pieces
abbrev pub with_pieces : ExitFrame → List PieceWords → ExitFrame
with_pieces f pieces = record f { places = places_in pieces }

-- A guard more, over these symbols, or the refusal of its line.
abbrev pub AddsExitGuard : {A : Type 0} → List Bool → ExitFrame → List ℕ → ℕ → ExitFrame
    → Result A AsmFault → Type 0
AddsExitGuard live old word line new result =
    MatchResult result
    (λ done. (form_check MOST_GUARDS live old.guards word ≡ None) × (new ≡ with_guard old word))
    (IsRefusal (form_check MOST_GUARDS live old.guards word) line)

-- A piece more, after those that are written before it, or the refusal of its line.
abbrev pub AddsExitPiece : {A : Type 0} → List Bool → ExitFrame → PieceWords → ℕ → ExitFrame
    → Result A AsmFault → Type 0
AddsExitPiece live old piece line new result =
    (before : List PieceWords) → old.places ≡ places_in before
    → MatchResult result
    (λ done. (piece_check live before piece ≡ None)
    × (new ≡ with_pieces old (before ++ piece ∷ [])))
    (IsRefusal (piece_check live before piece) line)
