-- As many as are told.
use Rattle.std.proofs.Common.{sym}
use Rattle.burr_container.proofs.PlaceWalk.{count_forms}
use Rattle.burr_container.proofs.frame_ref.FrameRef.stack_count.Goals as goal

pub returns-clause-count : goal.returns-clause-count
returns-clause-count c = let run = c.args.self.now.stack in sym (count_forms run.live run.count run.bytes.now)
