use Rattle.std.proofs.Common.{◌↔◌, Bool, true, false, not, IsTrue}
use Rattle.burr_text.proofs.Common.Tests.{yes_of, yes_iff, no_of, no_iff}
use Rattle.burr_blocking.proofs.blocking.PreparedPair.clears.Goals as goal

other_way : {X : Type 0} (test : Bool) → IsTrue test ↔ X → IsTrue (not test) ↔ ¬ X
other_way true told = no_iff (λ none. none (yes_of told))
other_way false told = yes_iff (no_of told)

pub returns-in-Overlap : goal.returns-in-Overlap
returns-in-Overlap g c =
    rw (← c.self.view_is, c.in-Overlap.is)
    (other_way c.pair_blocked.result (c.pair_blocked.ensures c.self.inside.piece c.self.inside.other c.self.invariant))

pub returns-in-Exit : goal.returns-in-Exit
returns-in-Exit g c =
    rw (← c.self.view_is, c.in-Exit.is) (c.pair_free.ensures c.self.inside.piece c.self.inside.other c.self.invariant)
