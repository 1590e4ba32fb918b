-- As many as are told.
use Rattle.std.proofs.Common.{sym}
use Rattle.burr_container.proofs.PlaceWalk.{count_forms}
use Rattle.burr_container.proofs.frame_ref.ExitRef.guard_count.Goals as goal

pub returns-clause-count : goal.returns-clause-count
returns-clause-count c = let run = c.args.self.now.guards in sym (count_forms run.live run.count run.bytes.now)
