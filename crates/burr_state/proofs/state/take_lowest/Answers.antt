use Rattle.std.proofs.Common.{rules, arith}
use Rattle.burr_state.proofs.Common.Trays.Counts.{lowest_taken}
use Rattle.burr_state.proofs.state.take_lowest.Goals as goal

pub returns : goal.returns
returns c =
    let lowest = lowest_taken c.args.set.now (omega (arith, c.requires)) (search rules) in
    record { taken = lowest.0; rest = lowest.1; fewer = lowest.2 }
