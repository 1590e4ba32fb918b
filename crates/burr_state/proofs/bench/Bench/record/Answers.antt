use Rattle.std.proofs.Common.{arith}
use Rattle.burr_state.proofs.Common.Stepping.Callers.{chain_depth}
use Rattle.burr_state.proofs.bench.Bench.record.Goals as goal

pub returns-clause-state : goal.returns-clause-state
returns-clause-state c =
    let state = c.self.inside.state in
    let orderly = c.record.ensures.orderly in
    let waiting = chain_depth state.running.procedure state.callers orderly.chain in
    let runs = c.self.invariant.runs in
    let most = c.procedure-2.ensures.few in
    rw (← c.self.view_is) (record { orderly = orderly; fits = c.self.invariant; few = omega (arith, waiting, runs, most) })
