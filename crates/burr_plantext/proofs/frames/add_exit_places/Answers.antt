-- The next line is written.
use Rattle.std.proofs.Common.{◌+◌, arith}
use Rattle.burr_plantext.proofs.Steps.{one_more}
use Rattle.burr_plantext.proofs.FrameSteps.{place_left}
use Rattle.burr_container.specs.Views.Refs.{exit_frame_of}
use Rattle.burr_plantext.proofs.frames.add_exit_places.Goals as goal

pub loop-piece-preserved : goal.loop-piece-preserved
loop-piece-preserved c =
    let n = c.loop-piece.piece in
    rw c.in_ok-add_piece.ensures
    (one_more c.loop-piece.text.items _ _ _ _ c.loop-piece.invariant
    (place_left c.args.exit.now.places.live _ (exit_frame_of c.args.exit.now).places n (n + 1) _ c.requires.first c.requires.places (omega arith) c.place.ensures.place))
