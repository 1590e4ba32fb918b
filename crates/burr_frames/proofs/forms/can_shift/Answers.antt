-- Each of the three forms, one after the other.
use Rattle.std.proofs.Common.{rules, ◌∙◌, ap, sym, w32, FitsSigned, to_z, of_z, to_z-of_z}
use Rattle.std.proofs.lemmas.Bool.{true≢false}
use Rattle.burr_voxels.specs.declared.cell.Cell.{Cell}
use Rattle.burr_frames.proofs.OnePlace.{small_shifted}
use Rattle.burr_frames.proofs.forms.can_shift.Goals as goal
use Rattle.burr_frames.proofs.forms.can_shift.Goals.{then-can_raise, else-can_raise}

pub returns-then-can_raise-2 : goal.returns-then-can_raise-2
returns-then-can_raise-2 c =
    let unit = c.unit-unit.result in
    let x : FitsSigned w32 unit.x = search rules in
    let y : FitsSigned w32 unit.y = search rules in
    let z : FitsSigned w32 unit.z = search rules in
    let each =
    small_shifted c.args.direction (to_z w32 (of_z w32 unit.x)) (to_z w32 (of_z w32 unit.y)) (to_z w32 (of_z w32 unit.z)) c.in-On.tray c.in-On.position
    c.args.place.now (to_z-of_z x ∙ ap (λ (u : Cell). u.x) c.unit-unit.ensures) (to_z-of_z y ∙ ap (λ (u : Cell). u.y) c.unit-unit.ensures)
    (to_z-of_z z ∙ ap (λ (u : Cell). u.z) c.unit-unit.ensures) c.in-On.is in
    elim c.if-can_raise.branch [
      | then-can_raise w ↦ (
        λ last. each.0 (
          c.can_raise.ensures.0 w.if-can_raise.true,
          w.can_raise-then-can_raise.ensures.0 (sym w.value-is ∙ c.if-can_raise-2.true),
          c.can_raise-then-can_raise-2.ensures.0 last,
        ),
        λ small. c.can_raise-then-can_raise-2.ensures.1 (each.1 small).2,
      )
      | else-can_raise w ↦ absurd (true≢false (sym c.if-can_raise-2.true ∙ w.value-is ∙ w.if-can_raise.false))
    ]

pub returns-else-can_raise-2 : goal.returns-else-can_raise-2
returns-else-can_raise-2 c =
    let unit = c.unit-unit.result in
    let x : FitsSigned w32 unit.x = search rules in
    let y : FitsSigned w32 unit.y = search rules in
    let z : FitsSigned w32 unit.z = search rules in
    let each =
    small_shifted c.args.direction (to_z w32 (of_z w32 unit.x)) (to_z w32 (of_z w32 unit.y)) (to_z w32 (of_z w32 unit.z)) c.in-On.tray c.in-On.position
    c.args.place.now (to_z-of_z x ∙ ap (λ (u : Cell). u.x) c.unit-unit.ensures) (to_z-of_z y ∙ ap (λ (u : Cell). u.y) c.unit-unit.ensures)
    (to_z-of_z z ∙ ap (λ (u : Cell). u.z) c.unit-unit.ensures) c.in-On.is in (
      λ both. absurd (true≢false (sym both ∙ c.if-can_raise-2.false)),
      λ small.
          elim c.if-can_raise.branch [
            | then-can_raise w ↦ w.value-is ∙ w.can_raise-then-can_raise.ensures.1 (each.1 small).1
            | else-can_raise w ↦ w.value-is ∙ c.can_raise.ensures.1 (each.1 small).0
          ],
    )
