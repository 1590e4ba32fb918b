-- One frame at most stands at a place, and its state goes on; else what falls in does.
use Rattle.std.proofs.Common.{◌+◌, ◌∙◌, Some, ap, subst}
use Rattle.burr_container.specs.Views.Containers.{HasPlan}
use Rattle.burr_frames.specs.Rules.States.{state_of}
use Rattle.burr_verify.proofs.LabelPlaces.{frame_read, laid_out_here}
use Rattle.burr_verify.proofs.OnePass.{one_frame}
use Rattle.burr_verify.proofs.Stages.{at_label, no_label, none_found, one_found}
use Rattle.burr_verify.proofs.Transfers.{entered_bare, entered_labelled}
use Rattle.burr_verify.proofs.states.enter.Goals as goal

pub returns-in-Some : goal.returns-in-Some
returns-in-Some c p here kept at s enters =
    let l = one_found here c.args.at (c.args.at + 1) c.in-Some.label c.label_within.result c.in-Some.is (c.label_within.ensures.found p here kept at) in
    let labelled = at_label here c.args.at c.in-Some.label l.0 l.1 l.2 l.3 in
    let read = frame_read c.args.procedure.container.now c.args.procedure.number c.in-Some.label c.frame.result c.frame.ensures.plan p here kept at l.0 l.1 in
    let laid = laid_out_here c.args.procedure.container.now p c.args.procedure.number here (subst HasPlan c.container.ensures c.a_container_has_a_plan.ensures.plan) kept at in
    ap Some (c.of.ensures ∙ ap state_of read ∙ entered_labelled here c.args.at c.args.state.now s l.0.1 (one_frame here laid) labelled enters)

pub returns-in-None : goal.returns-in-None
returns-in-None c p here kept at s enters =
    let bare = no_label here c.args.at (none_found here c.args.at (c.args.at + 1) c.label_within.result c.in-None.is (c.label_within.ensures.found p here kept at)) in
    entered_bare here c.args.at c.args.state.now s bare enters
