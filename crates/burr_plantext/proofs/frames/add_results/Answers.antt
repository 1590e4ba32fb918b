-- The next line is written.
use Rattle.std.proofs.Common.{◌+◌, arith}
use Rattle.burr_container.specs.Views.Refs.{exit_frame_of}
use Rattle.burr_plantext.proofs.Steps.{one_more}
use Rattle.burr_plantext.proofs.FrameSteps.{result_left}
use Rattle.burr_plantext.proofs.frames.add_results.Goals as goal

pub loop-n-preserved : goal.loop-n-preserved
loop-n-preserved c =
    let n = c.loop-n.n in
    rw c.in_ok-add_range.ensures
    (one_more c.loop-n.text.items _ _ _ _ c.loop-n.invariant
    (result_left (exit_frame_of c.args.exit.now).results n (n + 1) _ (omega arith) c.result.ensures.range))
