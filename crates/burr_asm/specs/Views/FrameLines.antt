-- What a line of a frame makes of it.
use Rattle.std.specs.Prelude.{◌≡◌, ℕ, List, [], ◌∷◌, ◌++◌, None, Result, MatchResult}
use Rattle.burr_plantext.specs.Rules.Lines.{Line, PieceWords}
use Rattle.burr_plantext.specs.Rules.Sources.{Conditions, FrameSource}
use Rattle.burr_asm.specs.declared.fault.AsmFault.{AsmFault}
use Rattle.burr_asm.specs.Views.Faults.{IsRefusal}
use Rattle.burr_asm.specs.Views.Frames.{ConditionParts, AreFor, condition_check, with_condition}

-- A line more before the cost, or its refusal.
abbrev pub AddsCondition : {A : Type 0} → ConditionParts → Line → ℕ → ConditionParts
    → Result A AsmFault → Type 0
AddsCondition old line number new result =
    (c : Conditions) → AreFor old c
    → MatchResult result
    (λ done. (condition_check c line ≡ None) × AreFor new (with_condition c line))
    (IsRefusal (condition_check c line) number)

-- the frame with its cost; no piece of it has been read yet
abbrev pub costed : Conditions → List ℕ → FrameSource
costed c form = record { conditions = c; cost = form; pieces = [] }

-- the frame with one piece more
abbrev pub with_piece : FrameSource → PieceWords → FrameSource
with_piece f piece = record f { pieces = f.pieces ++ piece ∷ [] }
