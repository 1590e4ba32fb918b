-- The rule that is judged is that of the instruction that was given.
use Rattle.burr_code.specs.declared.instr.Instr.TheVariants as instr
use Rattle.burr_frames.specs.Rules.FramedPlans.{framed_plan}
use Rattle.burr_frames.specs.Views.Breaks.{next_verdict, last_verdict}
use Rattle.burr_verify.specs.Views.Judgements.{verdict_of}
use Rattle.burr_verify.proofs.Transfers.{by_rule}
use Rattle.burr_verify.proofs.states.transfer_in_place.Goals as goal

pub returns-in-Add : goal.returns-in-Add
returns-in-Add c homes p here kept at =
    by_rule homes (framed_plan p) c.args.procedure.number here c.args.state.now c.args.instruction.now instr.Add (next_verdict c.add.new.self c.add.result) (verdict_of c.add.new.self c.falls_through-in-Add.result)
    c.in-Add.is (c.falls_through-in-Add.ensures c.add.new.self) c.add.ensures.verdict

pub returns-in-Sub : goal.returns-in-Sub
returns-in-Sub c homes p here kept at =
    by_rule homes (framed_plan p) c.args.procedure.number here c.args.state.now c.args.instruction.now instr.Sub (next_verdict c.sub.new.self c.sub.result) (verdict_of c.sub.new.self c.falls_through-in-Sub.result)
    c.in-Sub.is (c.falls_through-in-Sub.ensures c.sub.new.self) c.sub.ensures.verdict

pub returns-in-Jump : goal.returns-in-Jump
returns-in-Jump c homes p here kept at =
    by_rule homes (framed_plan p) c.args.procedure.number here c.args.state.now c.args.instruction.now (instr.Jump c.in-Jump.label) (last_verdict c.jump.result) (verdict_of c.args.state.now c.has_no_successor-in-Jump.result)
    c.in-Jump.is (c.has_no_successor-in-Jump.ensures c.args.state.now) (c.jump.ensures p here kept at)

pub returns-in-Down : goal.returns-in-Down
returns-in-Down c homes p here kept at =
    by_rule homes (framed_plan p) c.args.procedure.number here c.args.state.now c.args.instruction.now (instr.Down c.in-Down.slot c.in-Down.label) (next_verdict c.down.new.self c.down.result) (verdict_of c.down.new.self c.falls_through-in-Down.result)
    c.in-Down.is (c.falls_through-in-Down.ensures c.down.new.self) (c.down.ensures.verdict p here kept at)

pub returns-in-Call : goal.returns-in-Call
returns-in-Call c homes p here kept at =
    by_rule homes (framed_plan p) c.args.procedure.number here c.args.state.now c.args.instruction.now (instr.Call c.in-Call.callee) (next_verdict c.call.new.self c.call.result) (verdict_of c.call.new.self c.falls_through-in-Call.result)
    c.in-Call.is (c.falls_through-in-Call.ensures c.call.new.self) (c.call.ensures.verdict p here kept at)

pub returns-in-Ret : goal.returns-in-Ret
returns-in-Ret c homes p here kept at =
    by_rule homes (framed_plan p) c.args.procedure.number here c.args.state.now c.args.instruction.now instr.Ret (last_verdict c.ret.result) (verdict_of c.args.state.now c.has_no_successor-in-Ret.result)
    c.in-Ret.is (c.has_no_successor-in-Ret.ensures c.args.state.now) (c.ret.ensures p here kept at)

pub returns-in-Store : goal.returns-in-Store
returns-in-Store c homes p here kept at =
    by_rule homes (framed_plan p) c.args.procedure.number here c.args.state.now c.args.instruction.now (instr.Store c.in-Store.slot) (next_verdict c.store.new.self c.store.result) (verdict_of c.store.new.self c.falls_through-in-Store.result)
    c.in-Store.is (c.falls_through-in-Store.ensures c.store.new.self) (c.store.ensures.verdict p here kept at)
