-- The ranges so far are put in place.
use Rattle.std.proofs.Common.{◌≡◌, ◌≤◌, length, take}
use Rattle.burr_forms.specs.Rules.Points.{AreRanges}
use Rattle.burr_forms.proofs.Padding.{padded_to}
use Rattle.burr_forms.proofs.points.Box8.new.Given as goal

abbrev pub invariant-loop-symbol : goal.invariant-loop-symbol
invariant-loop-symbol l = record {
  few : length l.ranges ≤ 8;
  within : l.symbol ≤ length l.ranges;
  are : AreRanges (take l.symbol l.ranges);
  is : l.eight ≡ padded_to 8 l.symbol l.ranges;
}
