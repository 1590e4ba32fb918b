use Rattle.burr_state.proofs.Common.Stepping.Calls.{caller_has_room, fits_returning}
use Rattle.burr_state.proofs.state.BenchState.execute.Goals as goal

pub returns-in-Call-clause-stays : goal.returns-in-Call-clause-stays
returns-in-Call-clause-stays c = record { pieces = c.call.ensures.stays; fits = c.call.ensures.fits }

pub returns-in-Call-clause-next : goal.returns-in-Call-clause-next
returns-in-Call-clause-next c homes = rw c.in-Call.is (c.call.ensures.next homes)

pub ret-requires : goal.ret-requires
ret-requires c = record {
  room =
      caller_has_room c.args.program.now.procedures c.args.procedure.now c.args.self.now.running.procedure c.args.self.now.callers
      c.requires.procedure c.requires.fits.room;
}

pub returns-in-Ret-clause-stays : goal.returns-in-Ret-clause-stays
returns-in-Ret-clause-stays c =
    record {
      pieces = c.ret.ensures.stays;
      fits = fits_returning c.args.program.now.procedures _ _ c.ret.result c.requires.fits c.ret.ensures.kept c.ret.ensures.caller;
    }
