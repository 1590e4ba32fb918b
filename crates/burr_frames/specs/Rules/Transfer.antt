-- The transfer rules of the verifier, an instruction each, as the instruction predicates of the JVM
-- Specification, 4.10.1.9.
use Rattle.std.specs.Prelude.{ℕ, List}
use Rattle.burr_voxels.specs.declared.cell.Cell.{Cell}
use Rattle.burr_code.specs.Instruction.{Instruction, Halt, Push, Load, Store, Add, Sub, Drop, Grip, Step, Aside, Tray, Jump, Down, Ask, Pick, Call, Ret}
use Rattle.burr_frames.specs.Rules.FramedPlans.{FramedProcedure, FramedPlan}
use Rattle.burr_frames.specs.Rules.States.{AbstractState}
use Rattle.burr_frames.specs.Rules.Verdicts.{Rest}
use Rattle.burr_frames.specs.Rules.NumberRules.{push_rule, load_rule, store_rule, add_rule, sub_rule, drop_rule}
use Rattle.burr_frames.specs.Rules.SpaceRules.{grip_rule, step_rule, aside_rule, tray_rule}
use Rattle.burr_frames.specs.Rules.ControlRules.{halt_rule, jump_rule, down_rule, call_rule, ret_rule}
use Rattle.burr_frames.specs.Rules.QuestionRules.{ask_rule, pick_rule}

-- The rule of an instruction, in procedure number n of the plan, from a state.
abbrev pub Transfer : List (List Cell) → FramedPlan → ℕ → FramedProcedure → AbstractState
    → Instruction → Rest
Transfer homes plan n here s Halt = halt_rule n s
Transfer homes plan n here s (Push x) = push_rule s x
Transfer homes plan n here s (Load v) = load_rule s v
Transfer homes plan n here s (Store v) = store_rule here s v
Transfer homes plan n here s Add = add_rule s
Transfer homes plan n here s Sub = sub_rule s
Transfer homes plan n here s Drop = drop_rule s
Transfer homes plan n here s (Grip group) = grip_rule s group
Transfer homes plan n here s (Step direction) = step_rule homes s direction
Transfer homes plan n here s (Aside direction tray) = aside_rule homes s direction tray
Transfer homes plan n here s (Tray tray) = tray_rule s tray
Transfer homes plan n here s (Jump label) = jump_rule here s label
Transfer homes plan n here s (Down v label) = down_rule here s v label
Transfer homes plan n here s (Ask low high) = ask_rule s low high
Transfer homes plan n here s (Pick labels) = pick_rule here s labels
Transfer homes plan n here s (Call callee) = call_rule plan n s callee
Transfer homes plan n here s Ret = ret_rule here s
