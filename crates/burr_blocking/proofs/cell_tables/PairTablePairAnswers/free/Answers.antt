use Rattle.std.proofs.Common.{◌≡◌, ◌∙◌, ℕ, ◌≤◌, Bool, false, rules, to_z-of_z, w32, FitsSigned, ap, subst, sym, arith}
use Rattle.std.specs.Prelude.{pos, IsTrue}
use Rattle.burr_text.proofs.Common.Tests.{yes_iff, no_iff, one_more_number}
use Rattle.burr_voxels.specs.declared.cell.Cell.{Cell}
use Rattle.burr_voxels.specs.Grid.{plus, along, FitsCell}
use Rattle.burr_blocking.specs.Views.Tables.{IsMarked}
use Rattle.burr_blocking.proofs.Reaches.{fits_along}
use Rattle.burr_blocking.proofs.cell_tables.PairTablePairAnswers.free.Goals as goal

not_both : (b : Bool) → b ≡ false → ¬ IsTrue b
not_both b is_false is_true = cc

pub add-requires : goal.add-requires
add-requires c =
    let fits : FitsSigned w32 c.from.result = search rules in
    let step : c.along.result ≡ along c.args.direction (pos c.loop-units.units) = (simp to_z-of_z at c.along.ensures) ∙ ap (along c.args.direction) c.from.ensures in
    subst (λ (s : Cell). FitsCell (plus c.args.displacement s)) (sym step) (fits_along c.args.direction c.args.displacement c.loop-units.units c.requires (omega (arith, c.units_ahead-first.ensures.few, c.loop-units-test.true)))

pub returns-then-blocked : goal.returns-then-blocked
returns-then-blocked c =
    let t = c.args.self.now in
    let fits : FitsSigned w32 c.from.result = search rules in
    let step : c.along.result ≡ along c.args.direction (pos c.loop-units.units) = (simp to_z-of_z at c.along.ensures) ∙ ap (along c.args.direction) c.from.ensures in
    let spot = c.add.ensures ∙ ap (plus c.args.displacement) step in
    let marked = subst (IsMarked t.extent t.marks.items) spot (c.blocked.ensures.0 c.if-blocked.true) in
    no_iff (λ ahead. ahead c.loop-units.units (omega (arith, c.units_ahead-first.ensures.first, c.loop-units.auto.units)) marked)

pub loop-units-preserved : goal.loop-units-preserved
loop-units-preserved c = λ k least below.
    let t = c.args.self.now in
    let fits : FitsSigned w32 c.from.result = search rules in
    let step : c.along.result ≡ along c.args.direction (pos c.loop-units.units) = (simp to_z-of_z at c.along.ensures) ∙ ap (along c.args.direction) c.from.ensures in
    let spot = c.add.ensures ∙ ap (plus c.args.displacement) step in
    let unmarked = λ (here : IsMarked t.extent t.marks.items (plus c.args.displacement (along c.args.direction (pos c.loop-units.units)))). not_both c.blocked.result c.if-blocked.false (c.blocked.ensures.1 (subst (IsMarked t.extent t.marks.items) (sym spot) here)) in
    one_more_number (λ (n : ℕ). 1 ≤ n → ¬ IsMarked t.extent t.marks.items (plus c.args.displacement (along c.args.direction (pos n)))) c.loop-units.units (λ n lt one. c.loop-units.invariant n one lt) (λ one. unmarked) k below least

pub returns-else-blocked : goal.returns-else-blocked
returns-else-blocked c =
    let t = c.args.self.now in
    let fits : FitsSigned w32 c.from.result = search rules in
    let step : c.along.result ≡ along c.args.direction (pos c.loop-units.units) = (simp to_z-of_z at c.along.ensures) ∙ ap (along c.args.direction) c.from.ensures in
    let spot = c.add.ensures ∙ ap (plus c.args.displacement) step in
    let unmarked = λ (here : IsMarked t.extent t.marks.items (plus c.args.displacement (along c.args.direction (pos c.loop-units.units)))). not_both c.blocked.result c.if-blocked.false (c.blocked.ensures.1 (subst (IsMarked t.extent t.marks.items) (sym spot) here)) in
    let so_far = one_more_number (λ (n : ℕ). 1 ≤ n → ¬ IsMarked t.extent t.marks.items (plus c.args.displacement (along c.args.direction (pos n)))) c.loop-units.units (λ n lt one. c.loop-units.invariant n one lt) (λ one. unmarked) in
    yes_iff (λ k least marked. let within = c.units_ahead-first.ensures.within k least marked.inside in so_far k (omega (arith, within.1)) least marked)
