-- The rules of instructions that ask: the checks in their order, and the state after.
use Rattle.std.specs.Prelude.{ℕ, ◌<◌, ℤ, List, [], ◌∷◌, ◌++◌, length}
use Rattle.burr_text.specs.Checks.{needs, finds}
use Rattle.burr_code.specs.Labels.{labelled}
use Rattle.burr_forms.specs.Rules.Forms.{symbol}
use Rattle.burr_frames.specs.declared.rule.Rule.TheVariants as rules
use Rattle.burr_frames.specs.Rules.FramedPlans.{FramedProcedure}
use Rattle.burr_frames.specs.Rules.States.{AbstractState}
use Rattle.burr_frames.specs.Rules.Verdicts.{Rest, plainly, paying, falls_through, no_successor, arriving_at_all}
use Rattle.burr_frames.specs.Rules.ControlRules.{HasRoomForSymbols}

-- a symbol more, of this range
abbrev pub with_symbol : ℤ → ℤ → AbstractState → AbstractState
with_symbol low high s = record s { ranges = s.ranges ++ (low, high) ∷ [] }

-- the same, and the symbol is the topmost operand
abbrev pub asked : ℤ → ℤ → AbstractState → AbstractState
asked low high s =
    record (with_symbol low high s) { operands = symbol (length s.ranges) ∷ s.operands }

abbrev pub ask_rule : AbstractState → ℤ → ℤ → Rest
ask_rule s low high =
    needs (length s.operands < 8) (plainly rules.StackFull)
    (needs (HasRoomForSymbols (with_symbol low high s)) (plainly rules.StateTooLarge)
    (paying s λ paid. falls_through (asked low high paid)))

abbrev pub pick_rule : FramedProcedure → AbstractState → List ℕ → Rest
pick_rule here s labels =
    finds (labelled here.labels labels) (plainly rules.BadJump) λ to.
    paying s λ paid. arriving_at_all paid to no_successor
