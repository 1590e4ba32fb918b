use Rattle.std.proofs.Common.{◌≡◌, ◌∙◌, ◌+◌, rules, to_z-of_z, w32, FitsSigned, ap, subst, sym, arith}
use Rattle.std.specs.Prelude.{pos}
use Rattle.burr_voxels.specs.declared.cell.Cell.{Cell}
use Rattle.burr_voxels.specs.Grid.{plus, along, FitsCell}
use Rattle.burr_blocking.proofs.Reaches.{fits_along}
use Rattle.burr_blocking.proofs.Sets.{none_so_far, more_so_far, all_so_far}
use Rattle.burr_blocking.proofs.row_tables.PairRows.rows_ahead.Goals as goal

pub add-requires : goal.add-requires
add-requires c =
    let fits : FitsSigned w32 c.from.result = search rules in
    let step : c.along.result ≡ along c.args.direction (pos c.loop-units.units) = (simp to_z-of_z at c.along.ensures) ∙ ap (along c.args.direction) c.from.ensures in
    subst (λ (s : Cell). FitsCell (plus c.args.from s)) (sym step) (fits_along c.args.direction c.args.from c.loop-units.units c.requires (omega (arith, c.units_ahead-first.ensures.few, c.loop-units-test.true)))

pub loop-units-init : goal.loop-units-init
loop-units-init c = none_so_far c.args.self.now.extent c.args.self.now.rows.items c.args.from c.args.direction _ c.units_ahead-first.result.1 c.units_ahead-first.ensures.within

pub loop-units-preserved : goal.loop-units-preserved
loop-units-preserved c =
    let t = c.args.self.now in
    let fits : FitsSigned w32 c.from.result = search rules in
    let step : c.along.result ≡ along c.args.direction (pos c.loop-units.units) = (simp to_z-of_z at c.along.ensures) ∙ ap (along c.args.direction) c.from.ensures in
    let spot = c.add.ensures ∙ ap (plus c.args.from) step in
    more_so_far t.extent t.rows.items c.args.from c.add.result c.args.direction c.loop-units.units c.loop-units.ahead c.row_at-ahead.result (omega (arith, c.units_ahead-first.ensures.first, c.loop-units.auto.units)) spot c.row_at-ahead.ensures c.loop-units.invariant

pub returns-clause-has : goal.returns-clause-has
returns-clause-has c = c.loop-units.invariant.has

pub returns-clause-all : goal.returns-clause-all
returns-clause-all c = λ n k least set is.
    let t = c.args.self.now in
    (all_so_far t.extent t.rows.items c.args.from c.args.direction c.loop-units.units c.units_ahead-first.result.0 c.units_ahead-first.result.1 c.loop-units.ahead c.units_ahead-first.ensures.within (omega (arith, c.loop-units-test.false)) c.loop-units.invariant).all n k least set is

pub returns-2-clause-has : goal.returns-2-clause-has
returns-2-clause-has c =
    let t = c.args.self.now in
    let fits : FitsSigned w32 c.from.result = search rules in
    let step : c.along.result ≡ along c.args.direction (pos c.loop-units.units) = (simp to_z-of_z at c.along.ensures) ∙ ap (along c.args.direction) c.from.ensures in
    let spot = c.add.ensures ∙ ap (plus c.args.from) step in
    (more_so_far t.extent t.rows.items c.args.from c.add.result c.args.direction c.loop-units.units c.loop-units.ahead c.row_at-ahead.result (omega (arith, c.units_ahead-first.ensures.first, c.loop-units.auto.units)) spot c.row_at-ahead.ensures c.loop-units.invariant).has

pub returns-2-clause-all : goal.returns-2-clause-all
returns-2-clause-all c = λ n k least set is.
    let t = c.args.self.now in
    let fits : FitsSigned w32 c.from.result = search rules in
    let step : c.along.result ≡ along c.args.direction (pos c.loop-units.units) = (simp to_z-of_z at c.along.ensures) ∙ ap (along c.args.direction) c.from.ensures in
    let spot = c.add.ensures ∙ ap (plus c.args.from) step in
    let more = more_so_far t.extent t.rows.items c.args.from c.add.result c.args.direction c.loop-units.units c.loop-units.ahead c.row_at-ahead.result (omega (arith, c.units_ahead-first.ensures.first, c.loop-units.auto.units)) spot c.row_at-ahead.ensures c.loop-units.invariant in
    (all_so_far t.extent t.rows.items c.args.from c.args.direction (c.loop-units.units + 1) c.units_ahead-first.result.0 c.units_ahead-first.result.1 _ c.units_ahead-first.ensures.within (omega arith) more).all n k least set is
