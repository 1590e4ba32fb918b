-- The next line is written.
use Rattle.std.proofs.Common.{◌+◌, arith, codes, refl}
use Rattle.burr_plantext.proofs.Steps.{one_more}
use Rattle.burr_plantext.proofs.FrameSteps.{form_left}
use Rattle.burr_container.specs.Views.Refs.{exit_frame_of}
use Rattle.burr_plantext.specs.Rules.Lines.{GuardLine}
use Rattle.burr_plantext.proofs.frames.add_exit_guards.Goals as goal

pub loop-n-preserved : goal.loop-n-preserved
loop-n-preserved c =
    let n = c.loop-n.n in
    rw c.in_ok-add_form_line.ensures
    (one_more c.loop-n.text.items _ _ _ _ c.loop-n.invariant
    (form_left GuardLine (codes "guard ") (λ w. refl) c.args.exit.now.places.live _ (exit_frame_of c.args.exit.now).guards n (n + 1) _ c.requires.first c.requires.guards (omega arith) c.guard.ensures.guard))
