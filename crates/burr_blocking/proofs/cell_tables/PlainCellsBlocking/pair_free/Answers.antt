use Rattle.std.proofs.Common.{Bool, true, false, not, IsTrue, ◌↔◌, ◌≡◌, ◌∙◌, ℕ, ap, subst}
use Rattle.burr_voxels.specs.declared.cell.Cell.{Cell}
use Rattle.burr_voxels.specs.declared.direction.Direction.{Direction}
use Rattle.std.specs.Prelude.{List}
use Rattle.burr_voxels.specs.Grid.{shifted}
use Rattle.burr_voxels.specs.CellSets.{IsAheadOfSome}
use Rattle.burr_text.proofs.Common.Tests.{yes_of, yes_iff, no_of, no_iff}
use Rattle.burr_assembly.specs.Rules.Homes.{homes_of, home_at}
use Rattle.burr_blocking.specs.Rules.Pairs.{IsFreeFrom}
use Rattle.burr_blocking.proofs.Common.Displaced.{free_where_unmet, unmet_where_free}
use Rattle.burr_blocking.proofs.cell_tables.PlainCellsBlocking.pair_free.Goals as goal

by_test : (met : Bool) (d : Cell) (ps qs : List Cell) (direction : Direction) → IsTrue met ↔ IsAheadOfSome (shifted d ps) qs direction → IsTrue (not met) ↔ IsFreeFrom ps qs d direction
by_test true d ps qs direction met = no_iff (λ free. unmet_where_free d ps qs direction free (yes_of met))
by_test false d ps qs direction met = yes_iff (free_where_unmet d ps qs direction (no_of met))

-- the same of the homes that the cells are
at_homes : (met : Bool) (d : Cell) (ps qs home other : List Cell) (direction : Direction) → ps ≡ home → qs ≡ other → IsTrue met ↔ IsAheadOfSome (shifted d ps) qs direction → IsTrue (not met) ↔ IsFreeFrom home other d direction
at_homes met d ps qs home other direction here there test =
    subst (λ (cs : List Cell). IsTrue (not met) ↔ IsFreeFrom cs other d direction) here
    (subst (λ (cs : List Cell). IsTrue (not met) ↔ IsFreeFrom ps cs d direction) there (by_test met d ps qs direction test))

pub returns : goal.returns
returns c = λ p q known.
    let home : ℕ → List Cell = home_at (homes_of c.args.self.now) in
    at_homes c.meets.result c.args.displacement c.home.result.now c.home-2.result.now (home p) (home q) c.args.direction
    (c.home.ensures.home ∙ ap home known.0) (c.home-2.ensures.home ∙ ap home known.3) c.meets.ensures
