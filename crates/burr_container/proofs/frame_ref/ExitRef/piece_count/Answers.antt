-- As many as are told.
use Rattle.std.proofs.Common.{sym}
use Rattle.burr_container.proofs.PlaceWalk.{count_places}
use Rattle.burr_container.proofs.frame_ref.ExitRef.piece_count.Goals as goal

pub returns-clause-places : goal.returns-clause-places
returns-clause-places c =
    let run = c.args.self.now.places in
    sym (count_places run.live run.count run.bytes.now run.stand)
