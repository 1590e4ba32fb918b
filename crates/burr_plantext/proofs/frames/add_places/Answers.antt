-- The next line is written.
use Rattle.std.proofs.Common.{◌+◌, arith}
use Rattle.burr_plantext.proofs.Steps.{one_more}
use Rattle.burr_plantext.proofs.FrameSteps.{place_left}
use Rattle.burr_container.specs.Rules.Plans.{live_slots}
use Rattle.burr_container.specs.Views.Refs.{frame_of}
use Rattle.burr_plantext.proofs.frames.add_places.Goals as goal

pub loop-piece-preserved : goal.loop-piece-preserved
loop-piece-preserved c =
    let n = c.loop-piece.piece in
    rw c.in_ok-add_piece.ensures
    (one_more c.loop-piece.text.items _ _ _ _ c.loop-piece.invariant
    (place_left (live_slots (frame_of c.args.frame.now).slots) c.args.symbols.now (frame_of c.args.frame.now).places n (n + 1) _ c.requires.own c.requires.over.places (omega arith) c.place.ensures.place))
