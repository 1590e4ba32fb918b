use Rattle.std.proofs.Common.{rules, FitsSigned}
use Rattle.std.specs.Int.{w32}
use Rattle.std.proofs.lemmas.Int.{to_z-of_z}
use Rattle.burr_assembly.proofs.PieceText.{written_line}
use Rattle.burr_assembly.proofs.text.add_piece.Goals as goal

-- one part after another, regrouped
pub returns : goal.returns
returns c =
    let x : FitsSigned w32 c.position-position.result.x = search rules in
    let y : FitsSigned w32 c.position-position.result.y = search rules in
    let z : FitsSigned w32 c.position-position.result.z = search rules in
    rw (
      c.in_ok-push-3.ensures.items,
      c.in_ok-add_number-3.ensures,
      c.in_ok-add_number-2.ensures,
      c.in_ok-add_number.ensures,
      c.in_ok-extend_from_slice-4.ensures.items,
      c.name-2.ensures,
      c.in_ok-push-2.ensures.items,
      c.in_ok-extend_from_slice-3.ensures.items,
      c.as_bytes-2.ensures.bytes,
      c.shape.ensures,
      c.in_ok-push.ensures.items,
      c.in_ok-extend_from_slice-2.ensures.items,
      c.as_bytes.ensures.bytes,
      c.name.ensures,
      c.in_ok-extend_from_slice.ensures.items,
      ← c.orientation.ensures,
    )
    (simp to_z-of_z (rw (← c.position-position.ensures) (written_line _ _ _ _ _ _ _)))
