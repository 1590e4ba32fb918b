-- The rules of instructions that change numbers: the checks in their order, and the state after.
use Rattle.std.specs.Prelude.{ℕ, ◌<◌, ◌≤◌, ℤ, List, ◌∷◌, length, set, get_or, Some, None}
use Rattle.burr_text.specs.Checks.{needs, finds}
use Rattle.burr_code.specs.Instruction.{IsInNumberRange}
use Rattle.burr_code.specs.Stacks.{top, top_two}
use Rattle.burr_forms.specs.Rules.Forms.{Form, value, number, plus_form, minus_form, IsSmallForm}
use Rattle.burr_frames.specs.declared.rule.Rule.TheVariants as rules
use Rattle.burr_frames.specs.Rules.FramedPlans.{FramedProcedure}
use Rattle.burr_frames.specs.Rules.States.{AbstractState}
use Rattle.burr_frames.specs.Rules.Verdicts.{Rest, plainly, everywhere, paying, falls_through}

-- the state with these operands
abbrev pub with_operands : List Form → AbstractState → AbstractState
with_operands operands s = record s { operands = operands }

-- the state with this form in slot v, and these operands
abbrev pub with_slot : ℕ → Form → List Form → AbstractState → AbstractState
with_slot v f operands s = record s { slots = set s.slots v (Some f); operands = operands }

-- the step is paid for, and control falls out with these operands
abbrev pub paid_with : AbstractState → List Form → Rest
paid_with s operands = paying s λ paid. falls_through (with_operands operands paid)

abbrev pub push_rule : AbstractState → ℤ → Rest
push_rule s x =
    needs (length s.operands < 8) (plainly rules.StackFull) (paid_with s (number x ∷ s.operands))

abbrev pub load_rule : AbstractState → ℕ → Rest
load_rule s v =
    finds (get_or s.slots v None) (plainly rules.EmptySlot) λ f.
    needs (length s.operands < 8) (plainly rules.StackFull) (paid_with s (f ∷ s.operands))

abbrev pub store_rule : FramedProcedure → AbstractState → ℕ → Rest
store_rule here s v =
    needs (here.parameters ≤ v) (plainly rules.ParamWritten)
    (finds (top s.operands) (plainly rules.MissingOperand) λ found.
    paying s λ paid. falls_through (with_slot v found.0 found.1 paid))

-- the form is small, and its value is a number at every point
abbrev pub result_rule : AbstractState → Form → List Form → Rest
result_rule s f below =
    needs (IsSmallForm f) (plainly rules.FormTooLarge)
    (everywhere s (λ point. IsInNumberRange (value point f)) rules.NumberRange (paid_with s (f ∷ below)))

abbrev pub add_rule : AbstractState → Rest
add_rule s =
    finds (top_two s.operands) (plainly rules.MissingOperand) λ found.
    result_rule s (plus_form found.1 found.0) found.2

abbrev pub sub_rule : AbstractState → Rest
sub_rule s =
    finds (top_two s.operands) (plainly rules.MissingOperand) λ found.
    result_rule s (minus_form found.1 found.0) found.2

abbrev pub drop_rule : AbstractState → Rest
drop_rule s = finds (top s.operands) (plainly rules.MissingOperand) λ found. paid_with s found.1
