use Rattle.std.proofs.Common.{◌≡◌, refl, sym, subst, inl, inr, arith}
use Rattle.burr_voxels.specs.declared.cell.Cell.{Cell}
use Rattle.burr_voxels.specs.Grid.{minus}
use Rattle.burr_voxels.specs.Near.{IsWithin}
use Rattle.burr_blocking.specs.declared.triangle.translate.Translate.{Translate}
use Rattle.burr_blocking.proofs.Reaches.{minus_within}
use Rattle.burr_blocking.proofs.triangle.Classes.pair.Goals as goal

shift_within : (s t : Translate) (shift : Cell) → shift ≡ minus s.displacement t.displacement → IsWithin 316 shift
shift_within s t shift is =
    subst (IsWithin 316) (sym is) (minus_within 158 158 s.displacement t.displacement s.near t.near)

pub invariant_of-result : goal.invariant_of-result
invariant_of-result c =
    record { near = shift_within c.index-from.result.now c.index-to.result.now c.sub-shift.result c.sub-shift.ensures; signed = refl }

pub invariant_of-result-2 : goal.invariant_of-result-2
invariant_of-result-2 c =
    record { near = shift_within c.index-from.result.now c.index-to.result.now c.sub-shift.result c.sub-shift.ensures; signed = refl }

pub returns-then-to-from : goal.returns-then-to-from
returns-then-to-from c = (
  c.index-from.result.now,
  c.index-to.result.now,
  c.index-from.ensures,
  c.index-to.ensures,
  record { order = omega (arith, c.if-to-from.true); shift = c.sub-shift.ensures; classes = inr (refl, refl, refl) },
)

pub returns : goal.returns
returns c = (
  c.index-from.result.now,
  c.index-to.result.now,
  c.index-from.ensures,
  c.index-to.ensures,
  record { order = omega (arith, c.if-to-from.false); shift = c.sub-shift.ensures; classes = inl (refl, refl, refl) },
)
