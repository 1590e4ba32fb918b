use Rattle.std.proofs.Common.{◌∙◌, ap, arith}
use Rattle.std.proofs.lemmas.List.{take_all}
use Rattle.burr_blocking.specs.Views.Bits.{or_both, joined_from}
use Rattle.burr_blocking.proofs.Joins.{none_joined, set_next}
use Rattle.burr_blocking.proofs.row_tables.join_each.Goals as goal

pub loop-i-init : goal.loop-i-init
loop-i-init c = none_joined (or_both c.args.columns c.args.further) c.args.first c.args.rows.now

pub loop-i-preserved : goal.loop-i-preserved
loop-i-preserved c =
    set_next (or_both c.args.columns c.args.further) c.args.first c.loop-i.i 0 0 c.args.rows.now c.args.others.now c.loop-i.rows (omega (arith, c.loop-i-test.true)) (omega (arith, c.requires.fits, c.loop-i-test.true)) c.loop-i.invariant

pub returns : goal.returns
returns c =
    c.loop-i.invariant ∙ ap (joined_from (or_both c.args.columns c.args.further) c.args.first c.args.rows.now) (take_all c.loop-i.i c.args.others.now (omega (arith, c.loop-i-test.false)))
