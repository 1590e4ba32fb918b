use Rattle.std.proofs.Common.{◌+◌, refl, sym, ap, subst}
use Rattle.std.specs.Prelude.{option_map}
use Rattle.burr_container.specs.Rules.Plans.{Frame}
use Rattle.burr_container.specs.Views.Refs.{frame_of}
use Rattle.burr_frames.specs.declared.rule.Rule.TheVariants as rules
use Rattle.burr_frames.specs.Views.ArrivalViews.{missed_at}
use Rattle.burr_frames.specs.Rules.Verdicts.{NoSuccessor}
use Rattle.burr_frames.specs.Rules.FramedPlans.{framed, framed_plan}
use Rattle.burr_frames.specs.Rules.Looks.{HasRoom}
use Rattle.burr_frames.specs.Rules.States.{state_of}
use Rattle.burr_verify.specs.Rules.Pass.{lacks_frame}
use Rattle.burr_verify.specs.Views.Judgements.{ArrivesIfAny}
use Rattle.burr_verify.specs.Views.LookViews.{HasRoomBefore}
use Rattle.burr_verify.proofs.JudgedOn.{plainly_refused}
use Rattle.burr_verify.proofs.LabelPlaces.{frame_read}
use Rattle.burr_verify.proofs.LookedOn.{looks_entered}
use Rattle.burr_verify.proofs.Stages.{no_label, at_label, enters_bare, enters_label, misses_label, stops_from, stops_by, none_found, one_found, told_missed, none_where, some_where}
use Rattle.burr_verify.proofs.passing.enter.Goals as goal

pub returns-in-None-clause-passes : goal.returns-in-None-clause-passes
returns-in-None-clause-passes c = λ homes p here kept at more.
    (let bare = no_label here c.args.pc (none_found here c.args.pc (c.args.pc + 1) c.label_within.result c.in-None.is (c.label_within.ensures.found p here kept at)) in
    let falling = some_where c.args.state.now c.if-is_some.ensures in (
      falling.0,
      falling.1,
      looks_entered homes (framed_plan p) c.args.procedure.number here c.args.last c.args.pc c.args.state.now falling.0 more
          (enters_bare here c.args.pc c.args.state.now falling.0 falling.1 bare),
    ))

pub returns-in-None-2-clause-passes : goal.returns-in-None-2-clause-passes
returns-in-None-2-clause-passes c = λ homes p here kept at more.
    (let bare = no_label here c.args.pc (none_found here c.args.pc (c.args.pc + 1) c.label_within.result c.in-None-2.is (c.label_within.ensures.found p here kept at)) in
    stops_from homes (framed_plan p) c.args.procedure.number here c.args.last c.args.pc c.args.state.now _ c.plain.result
    (none_where c.args.state.now c.if-is_some.ensures)
    (stops_by homes (framed_plan p) c.args.procedure.number here _ c.plain.result _ 0 (plainly_refused c.plain.result c.number.result c.args.pc c.args.procedure.number c.args.pc rules.MissingFrame c.plain.ensures c.number.ensures.number refl)
    (lacks_frame c.args.last c.args.pc more bare, refl)))

pub returns-in-Ok-clause-passes : goal.returns-in-Ok-clause-passes
returns-in-Ok-clause-passes c = λ homes p here kept at more.
    (let l = one_found here c.args.pc (c.args.pc + 1) c.in-Some.label c.label_within.result c.in-Some.is (c.label_within.ensures.found p here kept at) in
    let labelled = at_label here c.args.pc c.in-Some.label l.0 l.1 l.2 l.3 in
    let read = frame_read c.args.procedure.container.now c.args.procedure.number c.in-Some.label c.frame.result c.frame.ensures.plan p here kept at l.0 l.1 in
    let arrived = subst (λ (f : Frame). ArrivesIfAny c.args.state.now f NoSuccessor) read c.in-Ok.ensures.verdict in (
      state_of (framed (frame_of c.frame.result)),
      c.in-Ok.ensures.there,
      looks_entered homes (framed_plan p) c.args.procedure.number here c.args.last c.args.pc c.args.state.now _ more
          (enters_label here c.args.pc l.0.1 c.args.state.now _ labelled arrived (ap state_of read)),
    ))

pub returns-in-Err-clause-passes : goal.returns-in-Err-clause-passes
returns-in-Err-clause-passes c = λ homes p here kept at more.
    (let l = one_found here c.args.pc (c.args.pc + 1) c.in-Some.label c.label_within.result c.in-Some.is (c.label_within.ensures.found p here kept at) in
    let labelled = at_label here c.args.pc c.in-Some.label l.0 l.1 l.2 l.3 in
    let read = frame_read c.args.procedure.container.now c.args.procedure.number c.in-Some.label c.frame.result c.frame.ensures.plan p here kept at l.0 l.1 in
    let point = option_map (λ point. point.items) c.in-Err.miss.point in
    let missed = subst (λ (f : Frame). ArrivesIfAny c.args.state.now f (missed_at point)) read c.in-Err.ensures.verdict in
    misses_label homes (framed_plan p) c.args.procedure.number here c.args.last c.args.pc l.0.1 c.args.state.now point _ more labelled missed
    (told_missed c.plain-in-Err.result c.number-in-Err.result c.args.procedure.number c.args.last point c.plain-in-Err.ensures c.number-in-Err.ensures.number))

pub returns-in-Ok-clause-room : goal.returns-in-Ok-clause-room
returns-in-Ok-clause-room c =
    let here = c.requires.framed.1 in
    let l = one_found here c.args.pc (c.args.pc + 1) c.in-Some.label c.label_within.result c.in-Some.is (c.label_within.ensures.found c.requires.framed.0 here c.requires.framed.2 c.requires.framed.3) in
    let labelled = at_label here c.args.pc c.in-Some.label l.0 l.1 l.2 l.3 in
    let read = frame_read c.args.procedure.container.now c.args.procedure.number c.in-Some.label c.frame.result c.frame.ensures.plan c.requires.framed.0 here c.requires.framed.2 c.requires.framed.3 l.0 l.1 in
    subst HasRoomBefore (sym c.in-Ok.ensures.there) (subst HasRoom (sym (ap state_of read)) (c.requires.framed.4 c.args.pc l.0.1 labelled))
