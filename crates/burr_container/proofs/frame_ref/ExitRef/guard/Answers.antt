-- As many as are told.
use Rattle.std.proofs.Common.{arith}
use Rattle.burr_container.proofs.PlaceWalk.{count_forms}
use Rattle.burr_container.proofs.frame_ref.ExitRef.guard.Goals as goal

pub form-requires : goal.form-requires
form-requires c = let run = c.args.self.now.guards in omega (arith, count_forms run.live run.count run.bytes.now, c.requires)
