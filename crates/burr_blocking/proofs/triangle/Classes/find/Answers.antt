use Rattle.std.proofs.Common.{ℕ, subst, arith}
use Rattle.std.specs.Prelude.{List}
use Rattle.burr_text.proofs.Common.Tests.{one_more_number}
use Rattle.burr_voxels.specs.declared.cell.Cell.{Cell}
use Rattle.burr_assembly.specs.Rules.Homes.{homes_of}
use Rattle.burr_blocking.specs.Views.Translates.{IsTranslate, representative_at}
use Rattle.burr_blocking.proofs.Classed.{of_no_class}
use Rattle.burr_blocking.proofs.triangle.Classes.find.Goals as goal

pub loop-class-preserved : goal.loop-class-preserved
loop-class-preserved c =
    let homes = homes_of c.args.assembly.now in
    let rs = c.args.self.now.representatives.items in
    one_more_number (λ (k : ℕ). (d : Cell) → ¬ IsTranslate (representative_at homes rs k) d c.args.cells.now) c.loop-class.class c.loop-class.invariant (subst (λ (cs : List Cell). (d : Cell) → ¬ IsTranslate cs d c.args.cells.now) c.cells.ensures.cells c.in-None.ensures.translate)

pub returns : goal.returns
returns c =
    of_no_class (homes_of c.args.assembly.now) c.args.self.now.representatives.items c.args.cells.now c.loop-class.class (omega (arith, c.loop-class-test.false, c.len-class-end.ensures, c.args.self.now.representatives.ok.0)) c.loop-class.invariant
