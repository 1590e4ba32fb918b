-- An arrival that was judged with nothing after it, and what follows it.
use Rattle.std.proofs.Common.{arith}
use Rattle.burr_container.specs.Rules.Plans.{Frame}
use Rattle.burr_frames.specs.Rules.States.{AbstractState}
use Rattle.burr_frames.specs.Rules.Verdicts.{Broken, Verdict, Breaks, NoSuccessor, Rest, no_successor, arriving}

-- the state arrives, and what follows
pub arriving_on : (s : AbstractState) (f : Frame) (rest : Rest) (v : Verdict) → arriving s f no_successor NoSuccessor → rest v
    → arriving s f rest v
arriving_on s f rest v arrives h = grind (arith, arrives, h)

-- the state doesn't arrive, whatever follows
pub arriving_breaks : (s : AbstractState) (f : Frame) (rest : Rest) (broken : Broken) → arriving s f no_successor (Breaks broken)
    → arriving s f rest (Breaks broken)
arriving_breaks s f rest broken misses = grind (arith, misses)
