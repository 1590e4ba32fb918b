-- The numbers and names of the rules.
use Rattle.std.specs.Prelude.{ℕ, List, ◌++◌, codes, decimal}
use Rattle.burr_frames.specs.declared.rule.Rule.{Rule}
use Rattle.burr_frames.specs.declared.rule.Rule.TheVariants.{OtherAssembly, BadCode, BadLabel, MissingFrame, UnendedCode, MissingOperand, StackFull, EmptySlot, ParamWritten, BadJump, BadCount, NumberRange, GripOff, BadGroup, Collision, NotFree, TrayInUse, OffBench, BadCall, EntryMissed, FrameMissed, ExitMissed, NotApart, CostTooLow, StateTooLarge, FormTooLarge, BadFrame, BudgetTooLow}

abbrev pub rule_number : Rule → ℕ
rule_number OtherAssembly = 1
rule_number BadCode = 2
rule_number BadLabel = 3
rule_number MissingFrame = 4
rule_number UnendedCode = 5
rule_number MissingOperand = 6
rule_number StackFull = 7
rule_number EmptySlot = 8
rule_number ParamWritten = 9
rule_number BadJump = 10
rule_number BadCount = 11
rule_number NumberRange = 12
rule_number GripOff = 13
rule_number BadGroup = 14
rule_number Collision = 15
rule_number NotFree = 16
rule_number TrayInUse = 17
rule_number OffBench = 18
rule_number BadCall = 19
rule_number EntryMissed = 20
rule_number FrameMissed = 21
rule_number ExitMissed = 22
rule_number NotApart = 23
rule_number CostTooLow = 24
rule_number StateTooLarge = 25
rule_number FormTooLarge = 26
rule_number BadFrame = 27
rule_number BudgetTooLow = 28

-- the letter V and the number
abbrev pub rule_name : Rule → List ℕ
rule_name rule = codes "V" ++ decimal (rule_number rule)
