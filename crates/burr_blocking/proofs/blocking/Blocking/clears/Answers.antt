use Rattle.burr_blocking.proofs.blocking.Blocking.clears.Goals as goal

pub returns-in-Exit : goal.returns-in-Exit
returns-in-Exit g c = rw c.in-Exit.is c.free.ensures
