-- The next line is written.
use Rattle.std.proofs.Common.{◌+◌, arith, codes, refl}
use Rattle.burr_plantext.proofs.Steps.{one_more}
use Rattle.burr_plantext.proofs.FrameSteps.{form_left}
use Rattle.burr_container.specs.Rules.Plans.{live_slots}
use Rattle.burr_container.specs.Views.Refs.{frame_of}
use Rattle.burr_plantext.specs.Rules.Lines.{StackLine}
use Rattle.burr_plantext.proofs.frames.add_stack.Goals as goal

pub loop-n-preserved : goal.loop-n-preserved
loop-n-preserved c =
    let n = c.loop-n.n in
    rw c.in_ok-add_form_line.ensures
    (one_more c.loop-n.text.items _ _ _ _ c.loop-n.invariant
    (form_left StackLine (codes "stack ") (λ w. refl) (live_slots (frame_of c.args.frame.now).slots) c.args.symbols.now (frame_of c.args.frame.now).stack n (n + 1) _ c.requires.own c.requires.over.stack (omega arith) c.stack.ensures.operand))
