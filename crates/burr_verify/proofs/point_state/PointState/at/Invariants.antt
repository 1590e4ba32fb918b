use Rattle.std.proofs.Common.{◌≡◌, length, take}
use Rattle.burr_forms.specs.Rules.Forms.{AllNear}
use Rattle.burr_verify.proofs.point_state.PointState.at.Given as goal

-- the first symbols have their numbers, those of the point where it has as many
abbrev pub invariant-loop-n : goal.invariant-loop-n
invariant-loop-n l = record {
  near : AllNear l.symbols.items;
  count : length l.symbols.items ≡ l.n;
  same : length l.point ≡ length l.range-items → AllNear l.point → l.symbols.items ≡ take l.n l.point;
}
