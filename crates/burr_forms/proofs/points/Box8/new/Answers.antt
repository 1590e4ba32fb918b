-- A range more is put in place.
use Rattle.std.proofs.Common.{rules, arith, pos}
use Rattle.std.proofs.lemmas.List.Elements.{All-more}
use Rattle.burr_forms.specs.Rules.Points.{IsRange}
use Rattle.burr_forms.proofs.Padding.{put_next}
use Rattle.burr_forms.proofs.points.Box8.new.Goals as goal

pub loop-symbol-preserved : goal.loop-symbol-preserved
loop-symbol-preserved c = record {
  few = c.loop-symbol.invariant.few;
  within = omega arith;
  are = All-more IsRange c.args.ranges.now c.loop-symbol.symbol (pos 0, pos 0) c.loop-symbol-test.true c.loop-symbol.invariant.are (search rules);
  is = put_next c.loop-symbol.symbol c.args.ranges.now c.loop-symbol.eight (pos 0, pos 0) c.loop-symbol-test.true c.loop-symbol.invariant.few c.loop-symbol.invariant.is;
}
