-- The rule that is judged is that of the instruction that was given.
use Rattle.std.proofs.Common.{◌≡◌, List, sym, subst}
use Rattle.burr_voxels.specs.declared.cell.Cell.{Cell}
use Rattle.burr_code.specs.declared.instr.Instr.{Instr}
use Rattle.burr_code.specs.declared.instr.Instr.TheVariants as instr
use Rattle.burr_code.specs.Meaning.{meaning}
use Rattle.burr_assembly.specs.Rules.Homes.{homes_of}
use Rattle.burr_blocking.specs.Rules.Counted.{Counted, HasCounted}
use Rattle.burr_blocking.proofs.Common.Counts.{none_more}
use Rattle.burr_frames.specs.Rules.FramedPlans.{framed_plan}
use Rattle.burr_frames.specs.Rules.States.{AbstractState}
use Rattle.burr_frames.specs.Views.Breaks.{next_verdict}
use Rattle.burr_frames.specs.Rules.Looks.{RuleLooks}
use Rattle.burr_verify.specs.Views.Judgements.{verdict_of}
use Rattle.burr_verify.proofs.Transfers.{by_rule, in_place, no_look}
use Rattle.burr_verify.proofs.states.transfer.Goals as goal

-- the looks of the rule that was judged are those of the instruction that was given
looks_like : (homes : List (List Cell)) (s : AbstractState) (given told : Instr) (old new : Counted) → given ≡ told
    → HasCounted (RuleLooks homes s (meaning told)) old new → HasCounted (RuleLooks homes s (meaning given)) old new
looks_like homes s given told old new is counted =
    subst (λ (i : Instr). HasCounted (RuleLooks homes s (meaning i)) old new) (sym is) counted

pub returns-in-Step-clause-verdict : goal.returns-in-Step-clause-verdict
returns-in-Step-clause-verdict g c p here kept at =
    by_rule (homes_of c.args.looks.now.assembly) (framed_plan p) c.args.procedure.number here c.args.state.now c.args.instruction.now (instr.Step c.in-Step.direction) (next_verdict c.step.new.self c.step.result) (verdict_of c.step.new.self c.falls_through.result)
    c.in-Step.is (c.falls_through.ensures c.step.new.self) c.step.ensures.verdict

pub returns-in-Aside-clause-verdict : goal.returns-in-Aside-clause-verdict
returns-in-Aside-clause-verdict g c p here kept at =
    by_rule (homes_of c.args.looks.now.assembly) (framed_plan p) c.args.procedure.number here c.args.state.now c.args.instruction.now (instr.Aside c.in-Aside.direction c.in-Aside.tray) (next_verdict c.aside.new.self c.aside.result) (verdict_of c.aside.new.self c.falls_through-in-Aside.result)
    c.in-Aside.is (c.falls_through-in-Aside.ensures c.aside.new.self) c.aside.ensures.verdict

pub returns-in-Step-clause-counted : goal.returns-in-Step-clause-counted
returns-in-Step-clause-counted g c = looks_like (homes_of c.args.looks.now.assembly) c.args.state.now c.args.instruction.now (instr.Step c.in-Step.direction) c.args.looks.now c.step.new.looks c.in-Step.is c.step.ensures.counted

pub returns-in-Aside-clause-counted : goal.returns-in-Aside-clause-counted
returns-in-Aside-clause-counted g c = looks_like (homes_of c.args.looks.now.assembly) c.args.state.now c.args.instruction.now (instr.Aside c.in-Aside.direction c.in-Aside.tray) c.args.looks.now c.aside.new.looks c.in-Aside.is c.aside.ensures.counted

pub returns-in_default-clause-verdict : goal.returns-in_default-clause-verdict
returns-in_default-clause-verdict g c p here kept at =
    c.transfer_in_place.ensures (homes_of c.args.looks.now.assembly) p here kept at

pub returns-in_default-clause-counted : goal.returns-in_default-clause-counted
returns-in_default-clause-counted g c = (
  0,
  no_look (homes_of c.args.looks.now.assembly) c.args.state.now c.args.instruction.now
      (in_place c.args.instruction.now c.in_default.not-Step c.in_default.not-Aside),
  none_more c.args.looks.now,
)
