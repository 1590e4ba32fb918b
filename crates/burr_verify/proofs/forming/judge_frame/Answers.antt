-- One check after the other.
use Rattle.std.proofs.Common.{true, false, refl, sym, inl, inr}
use Rattle.burr_text.proofs.Common.Tests.{yes_of, no_of}
use Rattle.burr_container.specs.Views.Refs.{frame_of}
use Rattle.burr_frames.specs.Rules.FramedPlans.{framed}
use Rattle.burr_frames.proofs.Common.Heres.{parameters_read}
use Rattle.burr_frames.specs.declared.rule.Rule.TheVariants as rules
use Rattle.burr_verify.proofs.Formed.{label_read, formed_there, room_there}
use Rattle.burr_verify.proofs.JudgedOn.{plainly_refused}
use Rattle.burr_verify.proofs.forming.judge_frame.Goals as goal

pub returns-then-not-is_formed_at : goal.returns-then-not-is_formed_at
returns-then-not-is_formed_at c p here is at label standing =
    let read = label_read c.args.procedure.container.now p c.args.procedure.number c.args.label here label c.label-place.result c.frame-frame.result is at standing
    c.label-place.ensures c.frame-frame.ensures.plan in
    inl (
      no_of (formed_there c.args.label c.params.result here.parameters (framed (frame_of c.frame-frame.result)) label.1 false
          (sym (parameters_read c.args.procedure c.params.result c.params.ensures.plan p here is at)) read.1 c.if-not-is_formed_at.ensures),
      plainly_refused c.plain.result c.number-number.result c.label-place.result c.args.procedure.number label.0 rules.BadFrame
          c.plain.ensures c.number-number.ensures.number read.0,
    )

pub returns-then-not-has_room_for_points : goal.returns-then-not-has_room_for_points
returns-then-not-has_room_for_points c p here is at label standing =
    let read = label_read c.args.procedure.container.now p c.args.procedure.number c.args.label here label c.label-place.result c.frame-frame.result is at standing
    c.label-place.ensures c.frame-frame.ensures.plan in
    inr (
      yes_of (formed_there c.args.label c.params.result here.parameters (framed (frame_of c.frame-frame.result)) label.1 true
          (sym (parameters_read c.args.procedure c.params.result c.params.ensures.plan p here is at)) read.1 c.if-not-is_formed_at.ensures),
      inl (
        no_of (room_there c.of-state.result (framed (frame_of c.frame-frame.result)) label.1 false c.of-state.ensures read.1 c.if-not-has_room_for_points.ensures),
        plainly_refused c.plain-then-not-has_room_for_points.result c.number-number.result c.label-place.result c.args.procedure.number label.0 rules.StateTooLarge
            c.plain-then-not-has_room_for_points.ensures c.number-number.ensures.number read.0,
      ),
    )

pub returns : goal.returns
returns c p here is at label standing =
    let read = label_read c.args.procedure.container.now p c.args.procedure.number c.args.label here label c.label-place.result c.frame-frame.result is at standing
    c.label-place.ensures c.frame-frame.ensures.plan in
    inr (
      yes_of (formed_there c.args.label c.params.result here.parameters (framed (frame_of c.frame-frame.result)) label.1 true
          (sym (parameters_read c.args.procedure c.params.result c.params.ensures.plan p here is at)) read.1 c.if-not-is_formed_at.ensures),
      inr (yes_of (room_there c.of-state.result (framed (frame_of c.frame-frame.result)) label.1 true c.of-state.ensures read.1 c.if-not-has_room_for_points.ensures), refl),
    )
