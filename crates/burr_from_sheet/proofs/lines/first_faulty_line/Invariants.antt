use Rattle.std.proofs.Common.{◌<◌, ◌-◌}
use Rattle.burr_from_sheet.specs.SheetPlans.{AreOfMotions, first_lines}
use Rattle.burr_from_sheet.proofs.lines.first_faulty_line.Given as goal

-- the first `good` lines are those of motions, and the first `faulty` lines are not
abbrev pub invariant-loop-faulty : goal.invariant-loop-faulty
invariant-loop-faulty l = record {
  apart : l.good < l.faulty;
  good : AreOfMotions l.assembly (first_lines l.good l.lines);
  faulty : ¬ AreOfMotions l.assembly (first_lines l.faulty l.lines);
}

abbrev pub decreases-loop-faulty : goal.decreases-loop-faulty
decreases-loop-faulty l = l.faulty - l.good
