-- A move whose rule holds comes to what it comes to where nothing is in the way.
use Rattle.std.proofs.Common.{◌∙◌, subst}
use Rattle.burr_code.specs.declared.instr.Instr.{Instr}
use Rattle.burr_code.specs.Meaning.{meaning}
use Rattle.burr_frames.specs.Rules.FramedPlans.{framed_plan}
use Rattle.burr_frames.specs.Rules.Transfer.{Transfer}
use Rattle.burr_frames.proofs.Common.FineVerdicts.{free_of_aside, free_of_step, one_free_aside, one_free_step}
use Rattle.burr_frames.proofs.Common.Unique.{one_verdict}
use Rattle.burr_verify.proofs.Transfers.{fine}
use Rattle.burr_verify.proofs.states.transfer_freely.Goals as goal

pub returns-in-Step : goal.returns-in-Step
returns-in-Step c p here kept at homes verdict rule none =
    let held = subst (λ (i : Instr). Transfer homes (framed_plan p) c.args.procedure.number here c.args.state.now (meaning i) verdict) c.in-Step.is rule in
    c.falls_through.ensures c.step_freely.new.self
    ∙ one_free_step c.args.state.now c.in-Step.direction _ verdict c.step_freely.ensures.verdict
    (free_of_step homes c.args.state.now c.in-Step.direction verdict (fine verdict none) held)

pub returns-in-Aside : goal.returns-in-Aside
returns-in-Aside c p here kept at homes verdict rule none =
    let held = subst (λ (i : Instr). Transfer homes (framed_plan p) c.args.procedure.number here c.args.state.now (meaning i) verdict) c.in-Aside.is rule in
    c.falls_through-in-Aside.ensures c.aside_freely.new.self
    ∙ one_free_aside c.args.state.now c.in-Aside.tray _ verdict c.aside_freely.ensures.verdict
    (free_of_aside homes c.args.state.now c.in-Aside.field-0 c.in-Aside.tray verdict (fine verdict none) held)

pub returns-in_default : goal.returns-in_default
returns-in_default c p here kept at homes verdict rule none =
    one_verdict homes (framed_plan p) c.args.procedure.number here c.args.state.now (meaning c.args.instruction.now) _ verdict
    (c.transfer_in_place.ensures homes p here kept at) rule
