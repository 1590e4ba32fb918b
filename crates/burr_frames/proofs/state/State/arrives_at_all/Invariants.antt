use Rattle.std.proofs.Common.{◌≡◌, ℕ, List, Some, drop}
use Rattle.burr_code.specs.Labels.{labelled}
use Rattle.burr_container.specs.Rules.Plans.{Frame}
use Rattle.burr_frames.specs.Views.Here.{OfFramedProcedure}
use Rattle.burr_frames.specs.Rules.Verdicts.{Verdict, arriving_at_all, no_successor}
use Rattle.burr_frames.proofs.state.State.arrives_at_all.Given as goal

-- a verdict about the labels still to come is one about all of them
abbrev pub invariant-loop-number : goal.invariant-loop-number
invariant-loop-number l = OfFramedProcedure l.procedure (λ plan here.
    (to : List (ℕ × Frame)) → labelled here.labels l.labels ≡ Some to → (verdict : Verdict)
    → arriving_at_all l.self (drop l.number to) no_successor verdict → arriving_at_all l.self to no_successor verdict)
