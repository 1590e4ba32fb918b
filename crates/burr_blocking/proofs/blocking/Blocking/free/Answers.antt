use Rattle.burr_blocking.proofs.blocking.Blocking.free.Goals as goal

pub returns : goal.returns
returns g c = c.pair_free.ensures c.args.piece c.args.other c.pair-pair.ensures
