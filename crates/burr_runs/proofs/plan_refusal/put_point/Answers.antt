-- The word of a point, and its numbers.
use Rattle.std.proofs.Common.{◌≡◌, false, ℤ, ◌++◌, length, Some, refl, sym}
use Rattle.std.specs.Prelude.{◌==◌, codes}
use Rattle.arrayvec.specs.ArrayVec.{ArrayVec}
use Rattle.burr_io.proofs.Common.Puts.{Puts-more, Puts-fails}
use Rattle.burr_runs.specs.Rules.Verdicts.{point_part, numbers_part}
use Rattle.burr_runs.proofs.plan_refusal.put_point.Goals as goal

-- a point that has a number is put as its word and its numbers
named_part : (point : ArrayVec ℤ) → false ≡ (length point.items == 0)
    → point_part (Some point) ≡ codes " point" ++ numbers_part point.items
named_part point has = rw (sym has) refl

pub returns-in_err-put_all : goal.returns-in_err-put_all
returns-in_err-put_all g c =
    rw (c.in-Some.is, named_part c.in-Some.point c.if-is_empty.ensures)
    (Puts-fails _ c.in_err-put_all.ensures.puts c.from_residual.ensures.0)

pub returns : goal.returns
returns g c =
    let numbers = rw c.as_slice.ensures.value at c.put_numbers.ensures in
    rw (c.in-Some.is, named_part c.in-Some.point c.if-is_empty.ensures)
    (Puts-more c.in_ok-put_all.ensures.puts numbers)
