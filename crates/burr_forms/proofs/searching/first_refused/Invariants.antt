use Rattle.std.proofs.Common.{◌≡◌}
use Rattle.burr_forms.specs.Rules.Conditions.{region}
use Rattle.burr_forms.specs.Views.Rising.{count_after}
use Rattle.burr_forms.proofs.Counts.{Searches}
use Rattle.burr_forms.proofs.searching.first_refused.Given as goal

-- the condition holds at each point before this one; what is kept of the values of the guards and of
-- the forms is carried to this one; and the looks so far are counted
abbrev pub invariant-loop-cutting : goal.invariant-loop-cutting
invariant-loop-cutting g l =
    (g.C.Asking.subject l.condition ≡ g.C.Asking.subject l.initial.condition)
    × Searches (region l.ranges l.cutting) (g.C.Asking.Says (g.C.Asking.subject l.initial.condition))
    (g.C.Asking.Counts (g.C.Asking.subject l.initial.condition)) (g.C.Asking.most (g.C.Asking.subject l.initial.condition))
    (g.C.Asking.wanted (g.C.Asking.subject l.initial.condition)) l.signs.items l.sign_steps.items l.row.items
    l.steps.items l.point.items (g.C.Asking.count l.initial.condition) (g.C.Asking.count l.condition)

abbrev pub decreases-loop-cutting : goal.decreases-loop-cutting
decreases-loop-cutting g l = count_after l.ranges l.point.items
