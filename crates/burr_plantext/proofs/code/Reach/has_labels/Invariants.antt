-- All labels are there where all those still to come are.
use Rattle.std.proofs.Common.{◌≡◌, drop, nat_lt}
use Rattle.std.specs.List.{list_all}
use Rattle.burr_plantext.proofs.code.Reach.has_labels.Given as goal

abbrev pub invariant-loop-n : goal.invariant-loop-n
invariant-loop-n l =
    list_all (λ label. nat_lt label l.self.labels) l.labels
    ≡ list_all (λ label. nat_lt label l.self.labels) (drop l.n l.labels)
