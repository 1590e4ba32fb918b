use Rattle.std.proofs.Common.{subst, sym}
use Rattle.std.specs.Prelude.{◌↔◌, IsTrue}
use Rattle.burr_voxels.specs.declared.direction.Direction.{Direction}
use Rattle.burr_blocking.specs.Views.Overlaps.{HasNoneAhead}
use Rattle.burr_blocking.specs.Views.PairBits.{IsSet}
use Rattle.burr_blocking.proofs.row_tables.PairRowsPairAnswers.free.Goals as goal

pub returns-in-PlusX : goal.returns-in-PlusX
returns-in-PlusX c =
    let p = c.args.self.now in
    subst (λ (d : Direction). IsTrue c.is_clear_plus_x.result ↔ HasNoneAhead (IsSet p.extent p.rows.items) c.args.displacement d) (sym c.in-PlusX.is) c.is_clear_plus_x.ensures

pub returns-in-MinusX : goal.returns-in-MinusX
returns-in-MinusX c =
    let p = c.args.self.now in
    subst (λ (d : Direction). IsTrue c.is_clear_minus_x.result ↔ HasNoneAhead (IsSet p.extent p.rows.items) c.args.displacement d) (sym c.in-MinusX.is) c.is_clear_minus_x.ensures

pub returns-in-PlusY : goal.returns-in-PlusY
returns-in-PlusY c =
    let p = c.args.self.now in
    subst (λ (d : Direction). IsTrue c.is_clear_across.result ↔ HasNoneAhead (IsSet p.extent p.rows.items) c.args.displacement d) (sym c.in-PlusY.is) c.is_clear_across.ensures

pub returns-in-MinusY : goal.returns-in-MinusY
returns-in-MinusY c =
    let p = c.args.self.now in
    subst (λ (d : Direction). IsTrue c.is_clear_across-in-MinusY.result ↔ HasNoneAhead (IsSet p.extent p.rows.items) c.args.displacement d) (sym c.in-MinusY.is) c.is_clear_across-in-MinusY.ensures

pub returns-in-PlusZ : goal.returns-in-PlusZ
returns-in-PlusZ c =
    let p = c.args.self.now in
    subst (λ (d : Direction). IsTrue c.is_clear_across-in-PlusZ.result ↔ HasNoneAhead (IsSet p.extent p.rows.items) c.args.displacement d) (sym c.in-PlusZ.is) c.is_clear_across-in-PlusZ.ensures

pub returns-in-MinusZ : goal.returns-in-MinusZ
returns-in-MinusZ c =
    let p = c.args.self.now in
    subst (λ (d : Direction). IsTrue c.is_clear_across-in-MinusZ.result ↔ HasNoneAhead (IsSet p.extent p.rows.items) c.args.displacement d) (sym c.in-MinusZ.is) c.is_clear_across-in-MinusZ.ensures
