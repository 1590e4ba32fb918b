-- The parts are those of the frame.
use Rattle.std.proofs.Common.{◌++◌, ◌∙◌, codes}
use Rattle.std.proofs.lemmas.Result.{on_ok_weaker}
use Rattle.burr_container.specs.Views.Refs.{frame_of}
use Rattle.burr_plantext.specs.Views.Parts.{grip_text}
use Rattle.burr_plantext.proofs.FrameSteps.{frame_added}
use Rattle.burr_plantext.proofs.frames.add_frame.Goals as goal

pub returns : goal.returns
returns c =
    let gripped = c.in_ok-add_grip.ensures ∙ (λ i. c.args.text.now.items ++ grip_text (codes "frame ") (c.tray.ensures i) (c.grip.ensures i)) in
    on_ok_weaker c.add_places.result
    (λ says. frame_added (frame_of c.args.frame.now) c.live_slots-symbols.result c.cost.result c.args.text.now.items c.add_grip.new.text.items c.add_slots.new.text.items c.add_guards.new.text.items c.add_stack.new.text.items c.add_form_line.new.text.items c.add_places.new.text.items
    c.requires c.live_slots-symbols.ensures c.cost.ensures.cost gripped c.in_ok-add_slots.ensures c.in_ok-add_guards.ensures c.in_ok-add_stack.ensures c.in_ok-add_form_line.ensures says) c.add_places.ensures
