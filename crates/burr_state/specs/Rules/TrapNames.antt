-- The numbers and names of the traps.
use Rattle.std.specs.Prelude.{ℕ, List, codes}
use Rattle.burr_state.specs.declared.effect.Trap.{Trap}
use Rattle.burr_state.specs.declared.effect.Trap.TheVariants.{Collision, GripOff, NotFree, BadGroup, TrayInUse, MissingOperand, StackFull, EmptySlot, BadJump, BadCode, BadCall, BadCount, NumberRange, OffBench, NotApart, Misplaced, ParamWritten}

abbrev pub trap_number : Trap → ℕ
trap_number Collision = 1
trap_number GripOff = 2
trap_number NotFree = 3
trap_number BadGroup = 4
trap_number TrayInUse = 5
trap_number MissingOperand = 6
trap_number StackFull = 7
trap_number EmptySlot = 8
trap_number BadJump = 9
trap_number BadCode = 10
trap_number BadCall = 11
trap_number BadCount = 12
trap_number NumberRange = 13
trap_number OffBench = 14
trap_number NotApart = 15
trap_number Misplaced = 16
trap_number ParamWritten = 17

abbrev pub trap_name : Trap → List ℕ
trap_name Collision = codes "Collision"
trap_name GripOff = codes "GripOff"
trap_name NotFree = codes "NotFree"
trap_name BadGroup = codes "BadGroup"
trap_name TrayInUse = codes "TrayInUse"
trap_name MissingOperand = codes "MissingOperand"
trap_name StackFull = codes "StackFull"
trap_name EmptySlot = codes "EmptySlot"
trap_name BadJump = codes "BadJump"
trap_name BadCode = codes "BadCode"
trap_name BadCall = codes "BadCall"
trap_name BadCount = codes "BadCount"
trap_name NumberRange = codes "NumberRange"
trap_name OffBench = codes "OffBench"
trap_name NotApart = codes "NotApart"
trap_name Misplaced = codes "Misplaced"
trap_name ParamWritten = codes "ParamWritten"
