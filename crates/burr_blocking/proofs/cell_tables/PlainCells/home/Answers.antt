use Rattle.std.proofs.Common.{◌≡◌, [], sym, ap, subst, ◌∙◌, Option, unwrap_or}
use Rattle.std.specs.Prelude.{List}
use Rattle.std.proofs.lemmas.Option.{unwrap_or-slice_get}
use Rattle.burr_voxels.specs.declared.cell.Cell.{Cell}
use Rattle.burr_assembly.specs.Rules.Text.{Assembly}
use Rattle.burr_assembly.specs.Rules.Homes.{homes_of, home_at}
use Rattle.burr_blocking.proofs.cell_tables.PlainCells.home.Goals as goal

pub returns-clause-home : goal.returns-clause-home
returns-clause-home c =
    let homes : List (List Cell) = homes_of c.self.inside.assembly.now in
    subst (λ (a : Assembly). c.cells.result.now ≡ home_at (homes_of a) c.args.piece) c.self.view_is
    (sym (ap (λ (o : Option (List Cell)). unwrap_or o []) c.cells.ensures.home) ∙ unwrap_or-slice_get homes c.args.piece [])
