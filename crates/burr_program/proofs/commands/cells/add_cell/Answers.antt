use Rattle.std.proofs.Common.{rules, FitsSigned, ◌∷◌, []}
use Rattle.std.specs.Fmt.{signed_decimal}
use Rattle.std.specs.Int.{w32}
use Rattle.std.proofs.lemmas.Int.{to_z-of_z}
use Rattle.burr_program.proofs.CellLines.{line_added}
use Rattle.burr_program.proofs.commands.cells.add_cell.Goals as goal

pub returns : goal.returns
returns c =
    let x : FitsSigned w32 c.args.cell.now.x = search rules in
    let y : FitsSigned w32 c.args.cell.now.y = search rules in
    let z : FitsSigned w32 c.args.cell.now.z = search rules in
    rw (
      c.in_ok-push.ensures.items,
      c.in_ok-add_number-3.ensures,
      c.in_ok-add_number-2.ensures,
      c.in_ok-add_number.ensures,
      c.in_ok-extend_from_slice.ensures.items,
      c.as_bytes.ensures.value,
    )
    (simp to_z-of_z (line_added c.args.text.now.items c.args.name.now (32 ∷ signed_decimal c.args.cell.now.x) (32 ∷ signed_decimal c.args.cell.now.y) (32 ∷ signed_decimal c.args.cell.now.z) (10 ∷ [])))
